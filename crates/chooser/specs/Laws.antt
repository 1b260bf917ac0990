-- What is proved of the choosers' meanings, without their loops.
use Rattle.std.specs.Prelude.{◌≡◌, ℕ, suc, ◌+◌, ◌<◌, ◌≤◌, Bool, true, ◌&&◌, List, length, ◌==◌, nat_lt, slice_index, slice_index_or, slice_set}
use Rattle.algebra.specs.Layout.{numbers, place_of, index_of}
use Rattle.algebra.specs.declared.sign.Sign.{Sign}
use Rattle.algebra.specs.declared.sign.Sign.TheVariants.{Zero}
use Rattle.chooser.specs.Choice.{Question, Meaning}
use Rattle.chooser.specs.BySigns.{is_negative, differ, tally, changes, negatives, most_changed}
use Rattle.chooser.specs.Evening.{is_gap, halved, least_halved, evening}

-- ---- the layer
-- no axis was halved less than the least halved, and every lower one was halved more
abbrev pub LeastHalvedIsFirst : Type 0
LeastHalvedIsFirst = (q : Question) (k : ℕ) → k < length q.degrees → (halved q (least_halved q) ≤ halved q k) × (k < least_halved q → halved q (least_halved q) < halved q k)

-- the axis that the layer answers is never a gap or more ahead of the least halved
abbrev pub EveningKeepsClose : Type 0
EveningKeepsClose = (gap : ℕ) (below : Meaning) (q : Question) → is_gap gap ≡ true → halved q (evening gap below q).0 < halved q (least_halved q) + gap

-- and where the axis from below is not either, the answer from below stands
abbrev pub CloseAnswerStands : Type 0
CloseAnswerStands = (gap : ℕ) (below : Meaning) (q : Question) → halved q (below q).0 < halved q (least_halved q) + gap → evening gap below q ≡ below q

-- ---- the signs
-- no axis has more changes than the most changed, and every lower one has fewer
abbrev pub MostChangedIsFirst : Type 0
MostChangedIsFirst = (ns : List ℕ) (signs : List Sign) (k : ℕ) → k < length ns → (changes ns signs k ≤ changes ns signs (most_changed ns signs)) × (k < most_changed ns signs → changes ns signs k < changes ns signs (most_changed ns signs))

-- the sign of the number with an index on each axis
abbrev pub sign_at : List ℕ → List Sign → List ℕ → Sign
sign_at ns signs ks = slice_index_or signs (place_of ns ks) Zero

-- there is a next index along axis j, and the sign there is another
abbrev pub changes_after : List ℕ → List Sign → ℕ → List ℕ → Bool
changes_after ns signs j ks = nat_lt (slice_index ks j) (slice_index ns j) && differ (sign_at ns signs ks) (sign_at ns signs (slice_set ks j (suc (slice_index ks j))))

-- in a patch the changes along an axis are those over its indices, each taken with the next one along the axis
abbrev pub ChangesAreByIndex : Type 0
ChangesAreByIndex = (ns : List ℕ) (signs : List Sign) (j : ℕ) → j < length ns → numbers ns ≡ length signs →
    changes ns signs j ≡ tally (λ i. changes_after ns signs j (index_of ns i)) 0 (numbers ns)

abbrev pub NegativesAreByIndex : Type 0
NegativesAreByIndex = (ns : List ℕ) (signs : List Sign) (j k : ℕ) → j < length ns → numbers ns ≡ length signs →
    negatives ns signs j k ≡ tally (λ i. (slice_index (index_of ns i) j == k) && is_negative (sign_at ns signs (index_of ns i))) 0 (numbers ns)
