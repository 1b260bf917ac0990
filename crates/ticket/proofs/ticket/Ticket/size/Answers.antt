use Rattle.std.proofs.Common.{◌≡◌, ◌+◌, ◌*◌, nat_abs, refl, ◌∙◌, rules}
use Rattle.std.proofs.lemmas.Iterator.{YieldsList-from_slice, YieldsList-from_map}
use Rattle.std.proofs.lemmas.Iterator.Consumers.{YieldsList-at, fold_from_yields_List}
use Rattle.ticket.specs.Capped.{capped}
use Rattle.ticket.specs.Sizes.{power_reach, terms_size}
use Rattle.ticket.proofs.Caps.{cut_both, sum_fold}
use Rattle.ticket.proofs.ticket.Ticket.size.Goals as goal

pub returns : goal.returns
returns g c = λ p is.
    let axes = c.args.self.now.axes.items in
    let terms = c.args.self.now.terms.items in
    let sum : c.fold-sum.result ≡ capped (terms_size p axes terms) =
    fold_from_yields_List _ (λ s y. capped (s + y)) 0 _ c.fold-sum.ensures.ran
    (YieldsList-from_map _ (λ t. capped (nat_abs (p t) * power_reach axes t.exponents))
    (YieldsList-at c.map.ensures.source (YieldsList-from_slice terms cc))
    c.map.ensures.closure (λ x r q k. search (rules, is)))
    (λ a x b q k. search rules)
    ∙ sum_fold (terms_size p axes) _ _ refl (λ _ _. refl) (λ _. refl) _ in
    c.saturating_mul.ensures ∙ (λ i. capped (c.scale.ensures i * sum i)) ∙ cut_both _ _
