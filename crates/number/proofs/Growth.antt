-- Sizes of multiples and sums, and the room that a growth leaves.
use Rattle.std.proofs.Common.{◌≡◌, ℕ, zero, suc, ◌+◌, ◌*◌, ◌/◌, ◌^◌, ◌<◌, ◌≤◌, true, leb, ℤ, pos, negsuc, ◌+ℤ◌, ◌*ℤ◌, neg_ℤ, nat_abs, Decides, refl, mul_assoc, mul_comm, mul-le-mul_left, mul-zero, le-div_iff_mul-le, mul-suc, mul-add, le-mul_of_pos_right, add-one, arith, pow_pos, pow_mono}
use native.Mathlib.Nat.{pow-succ'}
use borrow.Author.Differences.{ints}
use Rattle.std.proofs.lemmas.Bool.Decides.{nat_tests}
use Rattle.algebra.specs.Pair.{Pair, pairs, sum, Within}
use Rattle.number.specs.Limits.{word, is_within, fits, may_grow}

nat_abs_neg : (n : ℕ) → nat_abs (neg_ℤ (pos n)) ≡ n
nat_abs_neg zero = refl
nat_abs_neg (suc n) = refl

pub nat_abs_times : (k : ℕ) (z : ℤ) → nat_abs (pos k *ℤ z) ≡ k * nat_abs z
nat_abs_times k (pos n) = refl
nat_abs_times k (negsuc n) = nat_abs_neg (k * suc n)

-- the test of `Within`
pub fits_decides : (limit : ℕ) (x : Pair) → Decides (fits limit x) (Within limit x)
fits_decides limit x = grind (arith, nat_tests)

-- a word times 2^n is within 2^62 - 1 exactly if its size is within the quotient
pub room_by_quotient : (n : ℕ) (z : ℤ) → Decides (is_within word (pos (2 ^ n) *ℤ z)) (nat_abs z ≤ word / 2 ^ n)
room_by_quotient n z =
    let h = le-div_iff_mul-le {k = 2 ^ n} {x = nat_abs z} {y = word} (pow_pos n) in
    simp nat_abs_times (grind (arith, nat_tests, h.0, h.1, mul_comm (nat_abs z) (2 ^ n)))

only_zero : (k a : ℕ) → word < k → Decides (leb (k * a) word) (a ≡ 0)
only_zero k zero h = grind (arith, nat_tests, mul-zero k)
only_zero k (suc a) h = grind (arith, nat_tests, mul-suc k a)

-- and from n = 62 on exactly if it is 0
pub room_of_zero : (n : ℕ) (z : ℤ) → 62 ≤ n → Decides (is_within word (pos (2 ^ n) *ℤ z)) (nat_abs z ≡ 0)
room_of_zero n z h = let big : word < 2 ^ n = omega (arith, pow_mono h) in simp nat_abs_times (only_zero (2 ^ n) (nat_abs z) big)

-- the test of growth, by the sizes of the two parts
pub growth_decides : (limit n : ℕ) (x : Pair) → Decides (may_grow limit n x) ((2 ^ n * nat_abs x.value ≤ limit) × (2 ^ n * nat_abs x.drift ≤ limit))
growth_decides limit n x = simp nat_abs_times (grind (arith, nat_tests))

pub growth_of_nought : (limit n : ℕ) → may_grow limit n pairs.nought ≡ true
growth_of_nought limit n =
    let h : 2 ^ n * 0 ≤ limit = omega (arith, mul-zero (2 ^ n)) in (growth_decides limit n pairs.nought).1 (h, h)

once : (limit k a : ℕ) → 0 < k → k * a ≤ limit → a ≤ limit
once limit k a p h = omega (arith, le-mul_of_pos_right a p, mul_comm k a)

pub growth_within : (limit n : ℕ) (x : Pair) → may_grow limit n x ≡ true → Within limit x
growth_within limit n x h =
    let g = (growth_decides limit n x).0 h in (once limit (2 ^ n) _ (pow_pos n) g.0, once limit (2 ^ n) _ (pow_pos n) g.1)

-- the size of a sum is at most twice the larger size
of_sum : (limit n : ℕ) (a b : ℤ) → 2 ^ (n + 1) * nat_abs a ≤ limit → 2 ^ (n + 1) * nat_abs b ≤ limit → 2 ^ n * nat_abs (a +ℤ b) ≤ limit
of_sum limit n a b p q =
    let k = 2 ^ n in
    let s : nat_abs (a +ℤ b) ≤ nat_abs a + nat_abs b = omega (arith, ints) in
    let twice : 2 ^ (n + 1) ≡ 2 * k = rw add-one (pow-succ' 2 n) in
    omega (arith, mul-le-mul_left k s, mul-add k (nat_abs a) (nat_abs b), rw (twice, mul_assoc) at p, rw (twice, mul_assoc) at q)

pub growth_of_sum : (limit n : ℕ) (x y : Pair) → may_grow limit (n + 1) x ≡ true → may_grow limit (n + 1) y ≡ true → may_grow limit n (sum x y) ≡ true
growth_of_sum limit n x y p q =
    let g = (growth_decides limit (n + 1) x).0 p in
    let h = (growth_decides limit (n + 1) y).0 q in
    (growth_decides limit n (sum x y)).1 (of_sum limit n x.value y.value g.0 h.0, of_sum limit n x.drift y.drift g.1 h.1)
