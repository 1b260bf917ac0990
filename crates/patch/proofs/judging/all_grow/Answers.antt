use Rattle.std.proofs.Common.{sym, ◌∙◌, rules, tests}
use Rattle.std.proofs.lemmas.Iterator.{YieldsList-from_slice}
use Rattle.std.proofs.lemmas.Iterator.Search.{all_from_yields_List}
use Rattle.std.proofs.lemmas.List.Folds.{list_all-map}
use Rattle.number.specs.Limits.{may_grow}
use Rattle.patch.proofs.judging.all_grow.Goals as goal

pub returns : goal.returns
returns g c =
    let m = g.K.Number in
    all_from_yields_List (λ x. may_grow m.limit c.args.n (m.means x)) _ _ _ c.all.ensures.ran (YieldsList-from_slice c.args.numbers.now (cc)) (λ x b q k. search (rules, tests))
    ∙ sym (list_all-map (may_grow m.limit c.args.n) m.means c.args.numbers.now)
