-- The slices that are lent hold what the ticket's lists do.
use Rattle.std.proofs.Common.{◌++◌, codes}
use Rattle.std.proofs.Output.{has_written_of_eq}
use Rattle.page.specs.Text.{axes_text, polynomial_text, question_text}
use Rattle.page.proofs.page.PageDisplay.fmt.Goals as goal

pub returns-clause-writes : goal.returns-clause-writes
returns-clause-writes g c = λ plain ok.
    has_written_of_eq g.W.Write.write_str_gives _ _ _ _
    (λ i. axes_text (c.deref.ensures.value i) ++ (codes "p = " ++ (polynomial_text (c.deref-2.ensures.value i) ++ question_text c.args.self.now.0.now)))
    (c.write.ensures.writes plain ok)
