use Rattle.std.proofs.Common.{◌∷◌, ap, ◌∙◌, rules}
use Rattle.case.proofs.Newest.{one_more_is_newest}
use Rattle.case.proofs.waiting.Waiting.push.Goals as goal

pub returns : goal.returns
returns c =
    let w = c.self.inside in
    one_more_is_newest w.len w.records c.args.record (search rules) ∙ ap (λ rs. c.args.record ∷ rs) c.self.view_is
