-- A polynomial in one unknown by its n + 1 Bernstein coefficients f 0 .. f n, which may be numbers of any module.
-- A point between two ends is given by its distances, s from the lower and t from the upper end, in any unit.
use Rattle.std.specs.Prelude.{ℕ, zero, suc, ◌+◌, ◌-◌, ◌*◌, ◌/◌, ℤ, pos, ◌-ℤ◌, ◌*ℤ◌}
use Rattle.algebra.specs.Module.{Ops, integers, pow}

-- n over k
abbrev pub choose : ℕ → ℕ → ℕ
choose n zero = 1
choose zero (suc k) = 0
choose (suc n) (suc k) = choose n k + choose n (suc k)

module _ {V : Type 0} (O : Ops V) where
  open O use {nought, plus, times}

  -- Σ g k, over k < n
  abbrev pub total : ℕ → (ℕ → V) → V
  total zero g = nought
  total (suc n) g = plus (g zero) (total n (λ k. g (suc k)))

  -- Σ choose n k · s^k · t^(n-k) · f k, over k ≤ n
  abbrev pub eval : ℕ → ℤ → ℤ → (ℕ → V) → V
  eval zero s t f = f zero
  eval (suc n) s t f = plus (times t (eval n s t f)) (times s (eval n s t (λ i. f (suc i))))

  -- Σ choose k r · f r, over r ≤ k
  abbrev pub binomial_sum : ℕ → (ℕ → V) → V
  binomial_sum k f = total (suc k) (λ r. times (pos (choose k r)) (f r))

  -- the coefficients on the lower and on the upper half, times 2^n so that they stay whole
  abbrev pub low : ℕ → (ℕ → V) → ℕ → V
  low n f k = times (pow (pos 2) (n - k)) (binomial_sum k f)

  abbrev pub high : ℕ → (ℕ → V) → ℕ → V
  high n f k = times (pow (pos 2) k) (binomial_sum (n - k) (λ r. f (n - r)))

-- l · choose k m / choose n m, for a common multiple l of all choose n m
abbrev pub share : ℕ → ℕ → ℕ → ℕ → ℕ
share l n k m = l / choose n m * choose k m

-- the coefficients of degree n, times l, of the power u^i between the ends a and b
abbrev pub of_power : ℕ → ℕ → ℤ → ℤ → ℕ → ℕ → ℤ
of_power l n a b i k = total integers (suc i) (λ m. pos (choose i m) *ℤ (pow (b -ℤ a) m *ℤ pow a (i - m)) *ℤ pos (share l n k m))
