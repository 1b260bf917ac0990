-- What is proved of pairs, of the Bernstein form along one axis and along several, and of its layout in a list.
use Rattle.std.specs.Prelude.{◌≡◌, ℕ, suc, ◌+◌, ◌-◌, ◌*◌, ◌%◌, ◌<◌, ◌≤◌, ◌↔◌, List, length, ℤ, pos, negsuc, ◌+ℤ◌, ◌-ℤ◌, ◌*ℤ◌, ◌≤ℤ◌, ◌<ℤ◌, slice_index, slice_set}
use Rattle.std.specs.List.{AllByRecursion}
use Rattle.algebra.specs.Module.{integers, pow}
use Rattle.algebra.specs.Pair.{Pair, pairs, sum, multiple, opposite, sign_of, turned, IsPositive, NotNegative, FirstOr}
use Rattle.algebra.specs.Bernstein.{choose, total, eval, low, high, of_power}
use Rattle.algebra.specs.Form.{Axis, degrees, Between, Index, toward, change, form, half_along, AtCorner, corner_index, corner_weight}
use Rattle.algebra.specs.Layout.{numbers, place_of, index_of, stride, base, patch, flat_half}
use Rattle.algebra.specs.declared.half.Half.{Half}

-- ---- pairs
abbrev pub PositiveByParts : Type 0
PositiveByParts = (x : Pair) → IsPositive x ↔ FirstOr x.value (pos 0 <ℤ x.drift)

abbrev pub NotNegativeByParts : Type 0
NotNegativeByParts = (x : Pair) → NotNegative x ↔ FirstOr x.value (pos 0 ≤ℤ x.drift)

abbrev pub MultipleKeepsSign : Type 0
MultipleKeepsSign = (a : ℤ) (x : Pair) → pos 0 <ℤ a → sign_of (multiple a x) ≡ sign_of x

abbrev pub OppositeTurnsSign : Type 0
OppositeTurnsSign = (x : Pair) → sign_of (opposite x) ≡ turned (sign_of x)

abbrev pub OppositeIsMultiple : Type 0
OppositeIsMultiple = (x : Pair) → opposite x ≡ multiple (negsuc 0) x

abbrev pub PositivePlusNotNegative : Type 0
PositivePlusNotNegative = (x y : Pair) → IsPositive x → NotNegative y → IsPositive (sum x y)

abbrev pub NotNegativePlusNotNegative : Type 0
NotNegativePlusNotNegative = (x y : Pair) → NotNegative x → NotNegative y → NotNegative (sum x y)

-- ---- one axis
abbrev pub EvalAdds : Type 0
EvalAdds = (n : ℕ) (s t : ℤ) (f g : ℕ → Pair) → eval pairs n s t (λ k. sum (f k) (g k)) ≡ sum (eval pairs n s t f) (eval pairs n s t g)

abbrev pub EvalMultiplies : Type 0
EvalMultiplies = (n : ℕ) (s t a : ℤ) (f : ℕ → Pair) → eval pairs n s t (λ k. multiple a (f k)) ≡ multiple a (eval pairs n s t f)

-- whole coefficients, each times the same pair
abbrev pub EvalTakesOutFactor : Type 0
EvalTakesOutFactor = (n : ℕ) (s t : ℤ) (b : ℕ → ℤ) (x : Pair) → eval pairs n s t (λ k. multiple (b k) x) ≡ multiple (eval integers n s t b) x

abbrev pub EvalReadsUpToDegree : Type 0
EvalReadsUpToDegree = (n : ℕ) (s t : ℤ) (f g : ℕ → Pair) → ((k : ℕ) → k ≤ n → f k ≡ g k) → eval pairs n s t f ≡ eval pairs n s t g

abbrev pub EvalIsWeightedSum : Type 0
EvalIsWeightedSum = (n : ℕ) (s t : ℤ) (f : ℕ → Pair) → eval pairs n s t f ≡ total pairs (suc n) (λ k. multiple (pos (choose n k) *ℤ (pow s k *ℤ pow t (n - k))) (f k))

abbrev pub EvalMirrors : Type 0
EvalMirrors = (n : ℕ) (s t : ℤ) (f : ℕ → Pair) → eval pairs n s t f ≡ eval pairs n t s (λ k. f (n - k))

abbrev pub EvalAtLowerEnd : Type 0
EvalAtLowerEnd = (n : ℕ) (t : ℤ) (f : ℕ → Pair) → eval pairs n (pos 0) t f ≡ multiple (pow t n) (f 0)

abbrev pub EvalAtUpperEnd : Type 0
EvalAtUpperEnd = (n : ℕ) (s : ℤ) (f : ℕ → Pair) → eval pairs n s (pos 0) f ≡ multiple (pow s n) (f n)

abbrev pub EvalKeepsPositive : Type 0
EvalKeepsPositive = (n : ℕ) (s t : ℤ) (f : ℕ → Pair) → pos 0 ≤ℤ s → pos 0 ≤ℤ t → pos 0 <ℤ (s +ℤ t) →
    ((k : ℕ) → k ≤ n → IsPositive (f k)) → IsPositive (eval pairs n s t f)

abbrev pub EvalKeepsNotNegative : Type 0
EvalKeepsNotNegative = (n : ℕ) (s t : ℤ) (f : ℕ → Pair) → pos 0 ≤ℤ s → pos 0 ≤ℤ t →
    ((k : ℕ) → k ≤ n → NotNegative (f k)) → NotNegative (eval pairs n s t f)

abbrev pub LowIsLowerHalf : Type 0
LowIsLowerHalf = (n : ℕ) (s t : ℤ) (f : ℕ → Pair) → eval pairs n (pos 2 *ℤ s) (t -ℤ s) (low pairs n f) ≡ multiple (pow (pos 2) n) (eval pairs n s t f)

abbrev pub HighIsUpperHalf : Type 0
HighIsUpperHalf = (n : ℕ) (s t : ℤ) (f : ℕ → Pair) → eval pairs n (s -ℤ t) (pos 2 *ℤ t) (high pairs n f) ≡ multiple (pow (pos 2) n) (eval pairs n s t f)

-- at the point u / w between a and b the power u^i w^(n-i), times l and (b - a)^n
abbrev pub PowerEvaluates : Type 0
PowerEvaluates = (l n i : ℕ) (a b u w : ℤ) → i ≤ n → ((m : ℕ) → m ≤ n → l % choose n m ≡ 0) →
    eval integers n (u -ℤ a *ℤ w) (b *ℤ w -ℤ u) (of_power l n a b i) ≡ pos l *ℤ (pow (b -ℤ a) n *ℤ (pow u i *ℤ pow w (n - i)))

-- ---- several axes
abbrev pub FormAdds : Type 0
FormAdds = (xs : List Axis) (f g : List ℕ → Pair) → form pairs xs (λ ks. sum (f ks) (g ks)) ≡ sum (form pairs xs f) (form pairs xs g)

abbrev pub FormMultiplies : Type 0
FormMultiplies = (xs : List Axis) (a : ℤ) (f : List ℕ → Pair) → form pairs xs (λ ks. multiple a (f ks)) ≡ multiple a (form pairs xs f)

abbrev pub FormReadsIndices : Type 0
FormReadsIndices = (xs : List Axis) (f g : List ℕ → Pair) → ((ks : List ℕ) → Index (degrees xs) ks → f ks ≡ g ks) → form pairs xs f ≡ form pairs xs g

abbrev pub FormKeepsPositive : Type 0
FormKeepsPositive = (xs : List Axis) (f : List ℕ → Pair) → AllByRecursion Between xs →
    ((ks : List ℕ) → Index (degrees xs) ks → IsPositive (f ks)) → IsPositive (form pairs xs f)

abbrev pub FormKeepsNotNegative : Type 0
FormKeepsNotNegative = (xs : List Axis) (f : List ℕ → Pair) → AllByRecursion Between xs →
    ((ks : List ℕ) → Index (degrees xs) ks → NotNegative (f ks)) → NotNegative (form pairs xs f)

abbrev pub FormAtCorner : Type 0
FormAtCorner = (xs : List Axis) (es : List Half) (f : List ℕ → Pair) → AtCorner xs es → form pairs xs f ≡ multiple (corner_weight xs es) (f (corner_index (degrees xs) es))

abbrev pub CornerShowsSign : Type 0
CornerShowsSign = (xs : List Axis) (es : List Half) (f : List ℕ → Pair) → AllByRecursion Between xs → AtCorner xs es → sign_of (form pairs xs f) ≡ sign_of (f (corner_index (degrees xs) es))

abbrev pub CornerHasIndex : Type 0
CornerHasIndex = (ns : List ℕ) (es : List Half) → Index ns (corner_index ns es)

abbrev pub FormHalves : Type 0
FormHalves = (h : Half) (xs : List Axis) (j : ℕ) (f : List ℕ → Pair) →
    form pairs (change j (toward h) xs) (half_along pairs h (degrees xs) j f) ≡ multiple (pow (pos 2) (slice_index (degrees xs) j)) (form pairs xs f)

-- ---- layout
abbrev pub IndexHasPlace : Type 0
IndexHasPlace = (ns ks : List ℕ) → Index ns ks → (place_of ns ks < numbers ns) × (index_of ns (place_of ns ks) ≡ ks)

abbrev pub PlaceHasIndex : Type 0
PlaceHasIndex = (ns : List ℕ) (i : ℕ) → i < numbers ns → Index ns (index_of ns i) × (place_of ns (index_of ns i) ≡ i)

abbrev pub NeighbourIsAStrideAway : Type 0
NeighbourIsAStrideAway = (ns ks : List ℕ) (j r : ℕ) → Index ns ks → j < length ns → place_of ns (slice_set ks j (suc r)) ≡ place_of ns (slice_set ks j r) + stride ns j

abbrev pub RowStaysInPatch : Type 0
RowStaysInPatch = (ns : List ℕ) (j i r : ℕ) → i < numbers ns → j < length ns → r ≤ slice_index ns j → base ns j i + r * stride ns j < numbers ns

abbrev pub FlatHalfIsHalf : Type 0
FlatHalfIsHalf = (h : Half) (ns ks : List ℕ) (j : ℕ) (b : List Pair) → Index ns ks → j < length ns →
    patch pairs ns (flat_half pairs h ns j b) ks ≡ half_along pairs h ns j (patch pairs ns b) ks

abbrev pub FlatHalfEvaluates : Type 0
FlatHalfEvaluates = (h : Half) (xs : List Axis) (j : ℕ) (b : List Pair) → j < length xs →
    form pairs (change j (toward h) xs) (patch pairs (degrees xs) (flat_half pairs h (degrees xs) j b)) ≡ multiple (pow (pos 2) (slice_index (degrees xs) j)) (form pairs xs (patch pairs (degrees xs) b))
