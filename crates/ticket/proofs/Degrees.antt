-- One record: how what the code holds of it shows in the definitions.
use Rattle.std.proofs.Common.{◌≡◌, ℕ, zero, suc, ◌+◌, ◌-◌, ◌<◌, ◌≤◌, List, [], ◌∷◌, length, get_or, refl, le_of_suc-le-suc, not-suc-le-zero, arith}
use Rattle.ticket.specs.WellFormed.{degree_at}
use Rattle.ticket.specs.declared.records.Axis.{Axis}

pub degree_inside : (l : List Axis) (i : ℕ) (d : Axis) → i < length l → degree_at l i ≡ (get_or l i d).degree
degree_inside [] i d a = absurd (not-suc-le-zero a)
degree_inside (x ∷ l) zero d a = refl
degree_inside (x ∷ l) (suc i) d a = degree_inside l i d (le_of_suc-le-suc a)

pub degree_outside : (l : List Axis) (i : ℕ) → length l ≤ i → degree_at l i ≡ 0
degree_outside [] i a = refl
degree_outside (x ∷ l) zero a = absurd (not-suc-le-zero a)
degree_outside (x ∷ l) (suc i) a = degree_outside l i (le_of_suc-le-suc a)

-- byte 1 + j is that of axis j
pub of_byte : (j : ℕ) → j ≡ 1 + j - 1
of_byte j = omega arith
