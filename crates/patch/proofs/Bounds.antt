-- How large the Bernstein coefficients of a power can be, and every number on the way to them.
use Rattle.std.proofs.Common.{◌≡◌, ℕ, zero, suc, ◌+◌, ◌-◌, ◌*◌, ◌/◌, ◌^◌, ◌<◌, ◌≤◌, ℤ, pos, negsuc, ◌+ℤ◌, ◌-ℤ◌, ◌*ℤ◌, neg_ℤ, nat_abs, sym, refl, ap, ◌∙◌, ap₂, mul_comm, mul-le-mul, mul-le-mul_left, mul-zero, mul-add, div-mul-le_self, arith, pow-add}
use native.Mathlib.Nat.{pow-zero, pow-succ', pow-le-pow_left, pow-le-pow_right}
use borrow.Author.Differences.{ints}
use Rattle.algebra.specs.Module.{integers, pow}
use Rattle.algebra.specs.Bernstein.{choose, total, share, of_power}
use Rattle.algebra.proofs.Integers.{natural}
use Rattle.algebra.proofs.Pair.{integers_laws}
use Rattle.algebra.proofs.Binomial.{total_cong}
use Rattle.algebra.proofs.Monomial.{binomial}
use Rattle.number.specs.Limits.{word}

-- ---- sizes of products, powers and sums
nat_abs_neg : (n : ℕ) → nat_abs (neg_ℤ (pos n)) ≡ n
nat_abs_neg zero = refl
nat_abs_neg (suc n) = refl

pub nat_abs_product : (x y : ℤ) → nat_abs (x *ℤ y) ≡ nat_abs x * nat_abs y
nat_abs_product (pos a) (pos b) = refl
nat_abs_product (pos a) (negsuc b) = nat_abs_neg (a * suc b)
nat_abs_product (negsuc a) (pos b) = nat_abs_neg (suc a * b)
nat_abs_product (negsuc a) (negsuc b) = refl

pub nat_abs_pow : (x : ℤ) (n : ℕ) → nat_abs (pow x n) ≡ nat_abs x ^ n
nat_abs_pow x zero = sym (pow-zero (nat_abs x))
nat_abs_pow x (suc n) = nat_abs_product x (pow x n) ∙ ap (λ z. nat_abs x * z) (nat_abs_pow x n) ∙ sym (pow-succ' (nat_abs x) n)

-- a power of a smaller number to a smaller exponent is a word too
pub smaller_power : (b c m e : ℕ) → b ≤ c → m ≤ e → c ^ e ≤ word → b ^ m ≤ word
smaller_power b c zero e h k room = omega (arith, pow-zero b)
smaller_power zero c (suc m) e h k room = omega (arith, pow-succ' zero m)
smaller_power (suc b) c (suc m) e h k room = omega (arith, pow-le-pow_left h (suc m), pow-le-pow_right {n = c} (omega arith) k)

-- ---- sums of natural numbers
abbrev pub sum : ℕ → (ℕ → ℕ) → ℕ
sum zero f = 0
sum (suc n) f = f zero + sum n (λ k. f (suc k))

sum_mono : (n : ℕ) (f g : ℕ → ℕ) → ((k : ℕ) → k < n → f k ≤ g k) → sum n f ≤ sum n g
sum_mono zero f g h = omega arith
sum_mono (suc n) f g h = omega (arith, h 0 (omega arith), sum_mono n (λ k. f (suc k)) (λ k. g (suc k)) (λ k p. h (suc k) (omega arith)))

sum_fewer : (m n : ℕ) (f : ℕ → ℕ) → m ≤ n → sum m f ≤ sum n f
sum_fewer zero n f h = omega arith
sum_fewer (suc m) zero f h = absurd (omega arith)
sum_fewer (suc m) (suc n) f h = omega (arith, sum_fewer m n (λ k. f (suc k)) (omega arith))

one_of_sum : (n k : ℕ) (f : ℕ → ℕ) → k < n → f k ≤ sum n f
one_of_sum zero k f h = absurd (omega arith)
one_of_sum (suc n) zero f h = omega arith
one_of_sum (suc n) (suc k) f h = omega (arith, one_of_sum n k (λ j. f (suc j)) (omega arith))

sum_times : (n c : ℕ) (f : ℕ → ℕ) → sum n (λ k. c * f k) ≡ c * sum n f
sum_times zero c f = sym (mul-zero c)
sum_times (suc n) c f = ap (λ z. c * f 0 + z) (sum_times n c (λ k. f (suc k))) ∙ sym (mul-add c (f 0) (sum n (λ k. f (suc k))))

total_of_naturals : (n : ℕ) (f : ℕ → ℕ) → total integers n (λ k. pos (f k)) ≡ pos (sum n f)
total_of_naturals zero f = refl
total_of_naturals (suc n) f = ap (λ z. pos (f 0) +ℤ z) (total_of_naturals n (λ k. f (suc k)))

total_size : (n : ℕ) (f : ℕ → ℤ) → nat_abs (total integers n f) ≤ sum n (λ k. nat_abs (f k))
total_size zero f = omega arith
total_size (suc n) f =
    let rest : ℤ = total integers n (λ k. f (suc k)) in
    let two : nat_abs (f 0 +ℤ rest) ≤ nat_abs (f 0) + nat_abs rest = omega (arith, ints) in
    omega (arith, two, total_size n (λ k. f (suc k)))

-- one summand more, at the end
pub total_more : (n : ℕ) (f : ℕ → ℤ) → total integers (suc n) f ≡ total integers n f +ℤ f n
total_more zero f = omega (arith, ints)
total_more (suc n) f = ap (λ z. f 0 +ℤ z) (total_more n (λ k. f (suc k))) ∙ omega (arith, ints)

-- ---- the binomial theorem
pow_natural : (n e : ℕ) → pow (pos n) e ≡ pos (n ^ e)
pow_natural n zero = ap pos (sym (pow-zero n))
pow_natural n (suc e) = ap (λ z. pos n *ℤ z) (pow_natural n e) ∙ ap pos (sym (pow-succ' n e))

binomial_sum_is : (e w a : ℕ) → sum (suc e) (λ m. choose e m * (w ^ m * a ^ (e - m))) ≡ (w + a) ^ e
binomial_sum_is e w a =
    natural (sym (total_of_naturals (suc e) (λ m. choose e m * (w ^ m * a ^ (e - m))))
    ∙ total_cong integers_laws (suc e) _ (λ m. pos (choose e m) *ℤ (pow (pos w) m *ℤ pow (pos a) (e - m)))
    (λ m h. sym (ap₂ (λ y z. pos (choose e m) *ℤ (y *ℤ z)) (pow_natural w m) (pow_natural a (e - m))))
    ∙ binomial e (pos w) (pos a) ∙ pow_natural (w + a) e)

-- ---- the shares
choose_mono : (k n m : ℕ) → k ≤ n → choose k m ≤ choose n m
choose_mono k n zero h = omega arith
choose_mono zero n (suc m) h = omega arith
choose_mono (suc k) zero (suc m) h = absurd (omega arith)
choose_mono (suc k) (suc n) (suc m) h = omega (arith, choose_mono k n m (omega arith), choose_mono k n (suc m) (omega arith))

pub share_small : (l n k m : ℕ) → k ≤ n → share l n k m ≤ l
share_small l n k m h = omega (arith, mul-le-mul_left (l / choose n m) (choose_mono k n m h), div-mul-le_self l (choose n m))

-- ---- a power on an axis with the ends a and b
module _ (a b : ℤ) (e : ℕ) where
  abbrev size : ℕ
  size = nat_abs a + nat_abs (b -ℤ a)

  abbrev part : ℕ → ℤ
  part m = pos (choose e m) *ℤ (pow (b -ℤ a) m *ℤ pow a (e - m))

  abbrev part_size : ℕ → ℕ
  part_size m = choose e m * (nat_abs (b -ℤ a) ^ m * nat_abs a ^ (e - m))

  powers_size : (m : ℕ) → nat_abs (pow (b -ℤ a) m *ℤ pow a (e - m)) ≡ nat_abs (b -ℤ a) ^ m * nat_abs a ^ (e - m)
  powers_size m = nat_abs_product (pow (b -ℤ a) m) (pow a (e - m)) ∙ ap₂ (λ y z. y * z) (nat_abs_pow (b -ℤ a) m) (nat_abs_pow a (e - m))

  part_size_is : (m : ℕ) → nat_abs (part m) ≡ part_size m
  part_size_is m = nat_abs_product (pos (choose e m)) (pow (b -ℤ a) m *ℤ pow a (e - m)) ∙ ap (λ z. choose e m * z) (powers_size m)

  parts_sum : sum (suc e) part_size ≡ size ^ e
  parts_sum = let c : nat_abs (b -ℤ a) + nat_abs a ≡ size = omega arith in binomial_sum_is e (nat_abs (b -ℤ a)) (nat_abs a) ∙ ap (λ z. z ^ e) c

  pub powers_small : (m : ℕ) → m ≤ e → nat_abs (pow (b -ℤ a) m *ℤ pow a (e - m)) ≤ size ^ e
  powers_small m h =
      let whole : size ^ m * size ^ (e - m) ≡ size ^ e = (let s : m + (e - m) ≡ e = omega arith in sym (pow-add size m (e - m)) ∙ ap (λ z. size ^ z) s) in
      omega (arith, powers_size m, whole, mul-le-mul (pow-le-pow_left {n = nat_abs (b -ℤ a)} {m = size} (omega arith) m) (pow-le-pow_left {n = nat_abs a} {m = size} (omega arith) (e - m)))

  pub part_small : (m : ℕ) → m ≤ e → nat_abs (part m) ≤ size ^ e
  part_small m h = omega (arith, part_size_is m, one_of_sum (suc e) m part_size (omega arith), parts_sum)

  module _ (l n k : ℕ) (place : k ≤ n) where
    abbrev summand : ℕ → ℤ
    summand m = part m *ℤ pos (share l n k m)

    summand_size : (m : ℕ) → nat_abs (summand m) ≤ l * part_size m
    summand_size m =
        omega (arith, nat_abs_product (part m) (pos (share l n k m)), ap (λ z. z * share l n k m) (part_size_is m), mul-le-mul_left (part_size m) (share_small l n k m place), mul_comm (part_size m) l)

    -- the sum of the first summands
    pub some_small : (j : ℕ) → j ≤ suc e → nat_abs (total integers j summand) ≤ l * size ^ e
    some_small j h =
        omega (arith, total_size j summand, sum_fewer j (suc e) (λ m. nat_abs (summand m)) h, sum_mono (suc e) (λ m. nat_abs (summand m)) (λ m. l * part_size m) (λ m p. summand_size m), sum_times (suc e) l part_size, ap (λ z. l * z) parts_sum)

    -- one summand more
    pub more_small : (j : ℕ) → j ≤ e → nat_abs (total integers j summand +ℤ summand j) ≤ l * size ^ e
    more_small j h = omega (arith, ap nat_abs (total_more j summand), some_small (suc j) (omega arith))

    pub summand_small : (m : ℕ) → m ≤ e → nat_abs (summand m) ≤ l * size ^ e
    summand_small m h = omega (arith, summand_size m, mul-le-mul_left l (one_of_sum (suc e) m part_size (omega arith)), ap (λ z. l * z) parts_sum)

    pub of_power_small : nat_abs (of_power l n a b e k) ≤ l * size ^ e
    of_power_small = some_small (suc e) (omega arith)
