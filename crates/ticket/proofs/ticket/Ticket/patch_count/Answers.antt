use Rattle.std.proofs.Common.{◌≡◌, ◌+◌, ◌*◌, map, fold, sym, refl, ap, ◌∙◌, add-one, rules}
use Rattle.std.proofs.iter.runs.Made.{chains}
use Rattle.ticket.specs.Capped.{capped}
use Rattle.ticket.specs.Sizes.{patch_count}
use Rattle.ticket.proofs.Caps.{product_fold}
use Rattle.ticket.proofs.ticket.Ticket.patch_count.Goals as goal

pub returns : goal.returns
returns c =
    let folded : c.fold.result ≡ fold (λ p y. capped (p * y)) 1 (map (λ a. a.degree + 1) c.args.self.now.axes.items) = search (rules, chains) in
    folded ∙ product_fold patch_count _ (λ a. a.degree + 1) refl (λ a l. ap (λ n. n * patch_count l) (sym (add-one a.degree))) (λ _ _. refl) _
