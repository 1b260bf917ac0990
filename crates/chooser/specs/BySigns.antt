-- The axis along which the signs of a patch change most.
use Rattle.std.specs.Prelude.{ℕ, zero, suc, ◌+◌, Bool, true, false, cond, ◌&&◌, ltb, List, length, ◌==◌, nat_lt, slice_index, slice_index_or}
use Rattle.algebra.specs.Layout.{numbers, stride, along}
use Rattle.algebra.specs.declared.half.Half.{Half}
use Rattle.algebra.specs.declared.half.Half.TheVariants.{Lower, Upper}
use Rattle.algebra.specs.declared.sign.Sign.{Sign}
use Rattle.algebra.specs.declared.sign.Sign.TheVariants.{Negative, Zero, Positive}
use Rattle.chooser.specs.Choice.{Meaning}
use Rattle.chooser.specs.Best.{first_best}

abbrev pub is_negative : Sign → Bool
is_negative Negative = true
is_negative Zero = false
is_negative Positive = false

abbrev pub differ : Sign → Sign → Bool
differ Negative Negative = false
differ Negative Zero = true
differ Negative Positive = true
differ Zero Negative = true
differ Zero Zero = false
differ Zero Positive = true
differ Positive Negative = true
differ Positive Zero = true
differ Positive Positive = false

-- how many of n places from a first one on pass a test
abbrev pub tally : (ℕ → Bool) → ℕ → ℕ → ℕ
tally test from zero = 0
tally test from (suc n) = tally test from n + cond (test (from + n)) 1 0

-- the tests of a place: its sign is negative; its sign and the one a stride further on differ
abbrev pub negative_at : List Sign → ℕ → Bool
negative_at signs i = is_negative (slice_index_or signs i Zero)

abbrev pub differ_at : List Sign → ℕ → ℕ → Bool
differ_at signs s i = differ (slice_index_or signs i Zero) (slice_index_or signs (i + s) Zero)

-- how many neighbour pairs along axis j differ in sign: every index along the axis but the last has a neighbour, a stride further on
abbrev pub changes : List ℕ → List Sign → ℕ → ℕ
changes ns signs j = tally (λ i. nat_lt (along ns j i) (slice_index ns j) && differ_at signs (stride ns j) i) 0 (length signs)

-- how many negative numbers have the index k along axis j
abbrev pub negatives : List ℕ → List Sign → ℕ → ℕ → ℕ
negatives ns signs j k = tally (λ i. (along ns j i == k) && negative_at signs i) 0 (length signs)

-- the axis with most changes, the lowest on a tie
abbrev pub most_changed : List ℕ → List Sign → ℕ
most_changed ns signs = first_best (λ i j. ltb (changes ns signs j) (changes ns signs i)) (length ns)

-- the upper half, if more negative numbers have the highest index along axis j than have index 0
abbrev pub half_first : List ℕ → List Sign → ℕ → Half
half_first ns signs j = cond (nat_lt (negatives ns signs j 0) (negatives ns signs j (slice_index ns j))) Upper Lower

abbrev pub choice_by_signs : List ℕ → List Sign → ℕ × Half
choice_by_signs ns signs = let axis : ℕ = most_changed ns signs in (axis, half_first ns signs axis)

-- signs that are not those of a patch of these degrees, as many as it has numbers, say nothing: axis 0 then, lower half first
abbrev pub by_signs : Meaning
by_signs q = cond (numbers q.degrees == length q.signs) (choice_by_signs q.degrees q.signs) (0, Lower)
