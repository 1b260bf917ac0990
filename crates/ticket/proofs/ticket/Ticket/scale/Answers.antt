use Rattle.std.proofs.Common.{◌≡◌, ◌*◌, map, fold, refl, ◌∙◌, rules}
use Rattle.std.proofs.iter.runs.Made.{chains}
use Rattle.ticket.specs.Capped.{capped}
use Rattle.ticket.specs.Sizes.{common, scale}
use Rattle.ticket.proofs.Caps.{product_fold}
use Rattle.ticket.proofs.ticket.Ticket.scale.Goals as goal

pub returns : goal.returns
returns c =
    let folded : c.fold.result ≡ fold (λ p y. capped (p * y)) 1 (map (λ a. common a.degree) c.args.self.now.axes.items) = search (rules, chains) in
    folded ∙ product_fold scale _ _ refl (λ _ _. refl) (λ _ _. refl) _
