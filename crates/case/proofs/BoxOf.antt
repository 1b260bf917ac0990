-- The box of a record: its halvings and its halves.
use Rattle.std.proofs.Common.{◌≡◌, ℕ, zero, suc, ◌<◌, ◌≤◌, List, [], ◌∷◌, get_or, take, refl, ap, arith}
use Rattle.algebra.specs.Form.{change}
use Rattle.algebra.specs.declared.half.Half.{Half}
use Rattle.patch.specs.Box.{Box, entire, half_box}
use Rattle.search.specs.Search.{level}
use Rattle.case.specs.Records.{box_of}

pub halvings_within_level : (m : ℕ) (r : Box) (j : ℕ) → j < m → (get_or r j entire).halvings ≤ level (box_of m r)
halvings_within_level zero r j l = absurd (omega arith)
halvings_within_level (suc m) [] j l = omega arith
halvings_within_level (suc m) (x ∷ r) zero l = omega arith
halvings_within_level (suc m) (x ∷ r) (suc j) l = omega (arith, halvings_within_level m r j (omega arith))

take-change : {A : Type 0} (m j : ℕ) (f : A → A) (xs : List A) → take m (change j f xs) ≡ change j f (take m xs)
take-change zero j f xs = refl
take-change (suc m) j f [] = refl
take-change (suc m) zero f (x ∷ xs) = refl
take-change (suc m) (suc j) f (x ∷ xs) = ap (λ ys. x ∷ ys) (take-change m j f xs)

pub half_has_box : (m : ℕ) (h : Half) (j : ℕ) (r : Box) → box_of m (half_box h j r) ≡ half_box h j (box_of m r)
half_has_box m h j r = take-change m j _ r
