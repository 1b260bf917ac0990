use Rattle.std.proofs.Common.{sym, ap, ◌∙◌, rules, tests}
use Rattle.std.proofs.lemmas.Iterator.{YieldsList-from_slice}
use Rattle.std.proofs.lemmas.Iterator.Search.{all_from_yields_List}
use Rattle.std.proofs.lemmas.List.Folds.{list_all-map}
use Rattle.number.specs.Limits.{carries}
use Rattle.patch.specs.FirstPatch.{all_carried}
use Rattle.patch.proofs.first_patch.all_carried.Goals as goal

pub returns : goal.returns
returns g c =
    let terms = c.args.terms.now in
    all_from_yields_List (λ t. carries c.is_some-drifts.result t.drift) _ _ _ c.all.ensures.ran (YieldsList-from_slice terms (cc)) (λ t b q k. search (rules, tests))
    ∙ sym (list_all-map (carries c.is_some-drifts.result) (λ t. t.drift) terms)
    ∙ ap (λ d. all_carried d terms) (search rules)
