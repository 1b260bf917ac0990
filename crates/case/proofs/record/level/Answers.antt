use Rattle.std.proofs.Common.{◌≡◌, ℕ, ◌+◌, List, [], ◌∷◌, sum, refl, ap, ◌∙◌, rules}
use Rattle.std.proofs.lemmas.List.Sums.{sum_by-cons}
use Rattle.patch.specs.Point.{sum_of}
use Rattle.case.proofs.record.level.Goals as goal

added_up : (xs : List ℕ) → sum xs ≡ sum_of xs
added_up [] = refl
added_up (x ∷ xs) = sum_by-cons (λ x. x) x xs ∙ ap (λ n. x + n) (added_up xs)

pub returns : goal.returns
returns c =
    let e : c.sum.result ≡ sum c.args.halvings.now.items = search rules in
    e ∙ added_up c.args.halvings.now.items
