-- The first number and those behind it are the whole list.
use Rattle.std.proofs.Common.{true, rules}
use Rattle.std.specs.Fmt.{HasWritten}
use Rattle.std.proofs.Output.{has_written_append, has_written_of_eq}
use Rattle.page.specs.Text.{listed_text}
use Rattle.page.proofs.Behind.{listed}
use Rattle.page.proofs.patch.NumbersDisplay.fmt.Goals as goal

pub returns-clause-writes : goal.returns-clause-writes
returns-clause-writes g c = λ plain ok.
    let first : HasWritten g.W.Write.write_str_gives c.args.f.now (listed_text true c.in-Some.first.now) c.write.new.self = search rules in
    has_written_of_eq _ _ _ _ _
    (listed listed_text c.args.self.now.0.now c.in-Some.rest.now c.in-Some.first.now c.loop-number.number-index c.in-Some.ensures.cases.0 c.loop-number-test.false)
    (has_written_append _ _ _ _ _ _ first (c.loop-number.invariant first.plain))
