-- What the variables x₀, x₁ .. of an expression stand for: the entries of a list, and nought past its end.
use Rattle.std.proofs.Common.{ℕ, zero, suc, List, [], ◌∷◌}

abbrev pub tail : {V : Type 0} → List V → List V
tail [] = []
tail (x ∷ xs) = xs

module _ {V : Type 0} (nought : V) where
  abbrev pub head : List V → V
  head [] = nought
  head (x ∷ xs) = x

  abbrev pub at : ℕ → List V → V
  at zero ρ = head ρ
  at (suc i) ρ = at i (tail ρ)
