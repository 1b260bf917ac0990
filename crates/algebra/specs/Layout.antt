-- The coefficients of a patch as a list, the index on the last axis varying fastest.
use Rattle.std.specs.Prelude.{ℕ, zero, suc, ◌+◌, ◌-◌, ◌*◌, ◌/◌, ◌%◌, List, [], ◌∷◌, map, get_or, slice_index, slice_index_or}
use Rattle.std.specs.List.{range_with_len}
use Rattle.algebra.specs.Module.{Ops}
use Rattle.algebra.specs.Form.{half}
use Rattle.algebra.specs.declared.half.Half.{Half}

-- how many coefficients a patch of these degrees has
abbrev pub numbers : List ℕ → ℕ
numbers [] = 1
numbers (n ∷ ns) = suc n * numbers ns

abbrev pub place_of : List ℕ → List ℕ → ℕ
place_of [] ks = 0
place_of (n ∷ ns) [] = 0
place_of (n ∷ ns) (k ∷ ks) = k * numbers ns + place_of ns ks

abbrev pub index_of : List ℕ → ℕ → List ℕ
index_of [] i = []
index_of (n ∷ ns) i = (i / numbers ns) ∷ index_of ns (i % numbers ns)

-- how far apart two neighbours along axis j stand
abbrev pub stride : List ℕ → ℕ → ℕ
stride [] j = 1
stride (n ∷ ns) zero = numbers ns
stride (n ∷ ns) (suc j) = stride ns j

-- the index along axis j of place i, and the place in the same row where that index is 0
abbrev pub along : List ℕ → ℕ → ℕ → ℕ
along ns j i = (i / stride ns j) % suc (slice_index ns j)

abbrev pub base : List ℕ → ℕ → ℕ → ℕ
base ns j i = i - along ns j i * stride ns j

module _ {V : Type 0} (O : Ops V) where
  open O use {nought}

  -- the coefficients of a list by their indices
  abbrev pub patch : List ℕ → List V → List ℕ → V
  patch ns b ks = slice_index_or b (place_of ns ks) nought

  -- the list of a half along axis j: each row of the list halved in its place
  abbrev pub flat_half_at : Half → List ℕ → ℕ → List V → ℕ → V
  flat_half_at h ns j b i = half O h (slice_index ns j) (λ r. get_or b (base ns j i + r * stride ns j) nought) (along ns j i)

  abbrev pub flat_half : Half → List ℕ → ℕ → List V → List V
  flat_half h ns j b = map (flat_half_at h ns j b) (range_with_len 0 (numbers ns))
