-- The sweeps that halve a patch in its place, by sums alone. A block is the numbers of one index before the axis: n + 1 rows of s
-- numbers each, one row after the other. In each sweep every number of the block gets one number added: the one before it along the
-- axis, or itself.
use Rattle.std.specs.Prelude.{◌≡◌, ℕ, zero, suc, ◌+◌, ◌-◌, ◌*◌, ◌/◌, ◌%◌, ◌<◌, ◌≤◌, cond, List, map, length, nat_lt, slice_index_or}
use Rattle.std.specs.List.{range_with_len}
use Rattle.algebra.specs.Pair.{Pair, pairs, sum}
use Rattle.algebra.specs.Form.{half}
use Rattle.algebra.specs.declared.half.Half.{Half}
use Rattle.algebra.specs.declared.half.Half.TheVariants.{Lower, Upper}
use Rattle.patch.specs.declared.sweep.Rows.{Rows}

abbrev pub pair_at : List Pair → ℕ → Pair
pair_at b p = slice_index_or b p pairs.nought

-- the rows of a block, counted from the end that the half keeps
abbrev pub row_of : Half → ℕ → ℕ → ℕ
row_of Lower n u = u
row_of Upper n u = n - u

abbrev pub block_size : Rows → ℕ
block_size rows = (rows.degree + 1) * rows.stride

-- where number i of row u stands
abbrev pub spot : Rows → ℕ → ℕ → ℕ
spot rows u i = row_of rows.half rows.degree u * rows.stride + i

abbrev pub in_row : Rows → List Pair → ℕ → ℕ → Pair
in_row rows b u i = pair_at b (spot rows u i)

-- number i of the row that is farther from the end that the half keeps, of two neighbouring rows
abbrev pub farther : Half → ℕ → ℕ → ℕ
farther Lower s i = s + i
farther Upper s i = i

-- the row that is added to row u in sweep j
abbrev pub added_row : ℕ → ℕ → ℕ
added_row j u = cond (nat_lt j u) (u - 1) u

-- what stands in row u after j sweeps
abbrev pub swept : (ℕ → Pair) → ℕ → ℕ → Pair
swept q zero u = q u
swept q (suc j) u = sum (swept q j u) (swept q j (added_row j u))

-- the number at place p of a half along an axis of degree n, whose neighbours stand s apart
abbrev pub half_at : Half → ℕ → ℕ → (ℕ → Pair) → ℕ → Pair
half_at h n s x p = let k = (p / s) % suc n in half pairs h n (λ r. x (p - k * s + r * s)) k

abbrev pub half_of : Half → ℕ → ℕ → List Pair → List Pair
half_of h n s b = map (half_at h n s (pair_at b)) (range_with_len 0 (length b))

-- outside of a stretch all is as it was
abbrev pub Kept : ℕ → ℕ → (ℕ → Pair) → (ℕ → Pair) → Type 0
Kept from to new old = ((p : ℕ) → p < from → new p ≡ old p) × ((p : ℕ) → to ≤ p → new p ≡ old p)
