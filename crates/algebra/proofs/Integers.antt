-- The laws of ℤ that the library does not state: products with sums, and products with the order.
use Rattle.std.proofs.Common.{◌≡◌, ℕ, ◌*◌, ◌<◌, ℤ, pos, negsuc, ◌+ℤ◌, ◌*ℤ◌, nat_abs, ◌≤ℤ◌, ◌<ℤ◌, ap, mul-pos, arith}
use borrow.Author.Differences.{up, down, sum_is_lem, product_is}
use Rattle.std.proofs.lemmas.Int.{ints}

-- An integer z is the difference of the naturals `up z` and `down z`; omega takes a product of naturals as an atom, so it needs
-- each equation of them times each factor.
left : (k : ℕ) {m n : ℕ} → m ≡ n → k * m ≡ k * n
left k e = ap (λ x. k * x) e

right : (k : ℕ) {m n : ℕ} → m ≡ n → m * k ≡ n * k
right k e = ap (λ x. x * k) e

pub *ℤ-assoc : (a b c : ℤ) → a *ℤ b *ℤ c ≡ a *ℤ (b *ℤ c)
*ℤ-assoc a b c =
    omega (arith, ints, right (up c) (product_is a b).0, right (up c) (product_is a b).1, right (down c) (product_is a b).0, right (down c) (product_is a b).1, left (up a) (product_is b c).0, left (up a) (product_is b c).1, left (down a) (product_is b c).0, left (down a) (product_is b c).1)

pub *ℤ-+ℤ : (a b c : ℤ) → a *ℤ (b +ℤ c) ≡ a *ℤ b +ℤ a *ℤ c
*ℤ-+ℤ a b c = omega (arith, ints, left (up a) (sum_is_lem b c), left (down a) (sum_is_lem b c))

pub +ℤ-*ℤ : (a b c : ℤ) → (a +ℤ b) *ℤ c ≡ a *ℤ c +ℤ b *ℤ c
+ℤ-*ℤ a b c = omega (arith, ints, right (up c) (sum_is_lem a b), right (down c) (sum_is_lem a b))

pub one-*ℤ : (a : ℤ) → pos 1 *ℤ a ≡ a
one-*ℤ a = omega (arith, ints)

pub nonneg-* : (a b : ℤ) → pos 0 ≤ℤ a → pos 0 ≤ℤ b → pos 0 ≤ℤ (a *ℤ b)
nonneg-* (pos a) (pos b) h k = omega (arith, ints)
nonneg-* (pos a) (negsuc b) h k = absurd (omega (arith, ints))
nonneg-* (negsuc a) b h k = absurd (omega (arith, ints))

pub pos-* : (a b : ℤ) → pos 0 <ℤ a → pos 0 <ℤ b → pos 0 <ℤ (a *ℤ b)
pos-* (pos a) (pos b) h k = let m : 0 < a * b = mul-pos (omega (arith, ints)) (omega (arith, ints)) in omega (arith, ints)
pos-* (pos a) (negsuc b) h k = absurd (omega (arith, ints))
pos-* (negsuc a) b h k = absurd (omega (arith, ints))

-- an identity of naturals from that of the integers, which the ring solver gives
pub natural : {m n : ℕ} → pos m ≡ pos n → m ≡ n
natural e = ap nat_abs e
