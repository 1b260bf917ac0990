-- A polynomial in several unknowns, in Bernstein form along each axis: a coefficient for each choice of an index on each axis.
use Rattle.std.specs.Prelude.{◌≡◌, ℕ, zero, suc, ◌≤◌, List, [], ◌∷◌, map, ℤ, pos, ◌+ℤ◌, ◌-ℤ◌, ◌*ℤ◌, ◌≤ℤ◌, ◌<ℤ◌, slice_index, slice_set}
use Rattle.std.specs.List.{AllZip}
use Rattle.algebra.specs.Module.{Ops, pow}
use Rattle.algebra.specs.Bernstein.{eval, low, high}
use Rattle.algebra.specs.declared.half.Half.{Half}
use Rattle.algebra.specs.declared.half.Half.TheVariants.{Lower, Upper}

-- the degree along an axis, and a point's distances from the lower and from the upper end
pub record Axis : Type 0 where
  pub degree : ℕ
  pub s : ℤ
  pub t : ℤ

abbrev pub axis : ℕ → ℤ → ℤ → Axis
axis n s t = record { degree = n; s = s; t = t }

abbrev pub degrees : List Axis → List ℕ
degrees = map (λ x. x.degree)

-- the point lies between the ends, and they differ
pub record Between (x : Axis) : Type 0 where
  pub above : pos 0 ≤ℤ x.s
  pub below : pos 0 ≤ℤ x.t
  pub apart : pos 0 <ℤ (x.s +ℤ x.t)

-- an index on each axis, none above its degree
abbrev pub Index : List ℕ → List ℕ → Type 0
Index ns ks = AllZip ◌≤◌ ks ns

-- the same point, seen from the ends of a half, in half the unit
abbrev pub toward : Half → Axis → Axis
toward Lower x = axis x.degree (pos 2 *ℤ x.s) (x.t -ℤ x.s)
toward Upper x = axis x.degree (x.s -ℤ x.t) (pos 2 *ℤ x.t)

-- the list with what stands in place j changed
abbrev pub change : {A : Type 0} → ℕ → (A → A) → List A → List A
change j f [] = []
change zero f (x ∷ xs) = f x ∷ xs
change (suc j) f (x ∷ xs) = x ∷ change j f xs

module _ {V : Type 0} (O : Ops V) where
  -- eval along the first axis of the forms along the others
  abbrev pub form : List Axis → (List ℕ → V) → V
  form [] f = f []
  form (x ∷ xs) f = eval O x.degree x.s x.t (λ k. form xs (λ ks. f (k ∷ ks)))

  abbrev pub half : Half → ℕ → (ℕ → V) → ℕ → V
  half Lower = low O
  half Upper = high O

  -- the coefficients of a half along axis j
  abbrev pub half_along : Half → List ℕ → ℕ → (List ℕ → V) → List ℕ → V
  half_along h ns j f ks = half h (slice_index ns j) (λ r. f (slice_set ks j r)) (slice_index ks j)

-- ---- corners: of each axis one end, the lower or the upper half's
-- how far the point is from an end
abbrev pub distance : Half → Axis → ℤ
distance Lower x = x.s
distance Upper x = x.t

abbrev pub other : Half → Half
other Lower = Upper
other Upper = Lower

-- the point is that corner
abbrev pub AtCorner : List Axis → List Half → Type 0
AtCorner [] [] = Unit {0}
AtCorner [] (e ∷ es) = ⊥
AtCorner (x ∷ xs) [] = ⊥
AtCorner (x ∷ xs) (e ∷ es) = (distance e x ≡ pos 0) × AtCorner xs es

-- which coefficient is the corner's, and what it is multiplied by there
abbrev pub end_index : Half → ℕ → ℕ
end_index Lower n = 0
end_index Upper n = n

abbrev pub corner_index : List ℕ → List Half → List ℕ
corner_index [] es = []
corner_index (n ∷ ns) [] = 0 ∷ corner_index ns []
corner_index (n ∷ ns) (e ∷ es) = end_index e n ∷ corner_index ns es

abbrev pub corner_weight : List Axis → List Half → ℤ
corner_weight [] es = pos 1
corner_weight (x ∷ xs) [] = pos 1
corner_weight (x ∷ xs) (e ∷ es) = pow (distance (other e) x) x.degree *ℤ corner_weight xs es
