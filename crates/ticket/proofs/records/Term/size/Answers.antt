use Rattle.std.proofs.Common.{◌≡◌, ◌*◌, nat_abs, ◌∙◌, rules}
use Rattle.ticket.specs.Capped.{capped}
use Rattle.ticket.proofs.Caps.{cut_product_right}
use Rattle.ticket.proofs.records.Term.size.Goals as goal

pub returns : goal.returns
returns c =
    let part : c.from.result ≡ nat_abs c.args.part = search rules in
    c.saturating_mul.ensures ∙ (λ i. capped (part i * c.power_reach.ensures i)) ∙ cut_product_right _ _
