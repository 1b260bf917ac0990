use Rattle.std.proofs.Common.{◌*◌, ◌^◌, refl, ap, ◌∙◌, rules}
use Rattle.std.proofs.lemmas.Iterator.{YieldsList-from_slice, YieldsList-from_zip, YieldsList-from_map}
use Rattle.std.proofs.lemmas.Iterator.Consumers.{YieldsList-at, fold_from_yields_List}
use Rattle.ticket.specs.Capped.{capped}
use Rattle.ticket.specs.Sizes.{reach}
use Rattle.ticket.proofs.Caps.{cut_product_right, product_fold, reaches, reaches-zip}
use Rattle.ticket.proofs.records.Term.power_reach.Goals as goal

pub returns : goal.returns
returns c =
    let axes = c.args.axes.now in
    let exponents = c.args.self.now.exponents in
    fold_from_yields_List _ (λ p y. capped (p * y)) 1 _ c.fold.ensures.ran
    (YieldsList-from_map _ (λ q. capped (reach q.0 ^ q.1))
    (YieldsList-at c.map.ensures.source
    (YieldsList-from_zip (YieldsList-from_slice axes cc) (YieldsList-from_slice exponents cc)))
    c.map.ensures.closure (λ x r q k. search rules))
    (λ a x b q k. search rules)
    ∙ product_fold reaches _ (λ q. reach q.0 ^ q.1) refl (λ _ _. refl) (λ n q. cut_product_right n (reach q.0 ^ q.1)) _
    ∙ ap capped (reaches-zip _ _)
