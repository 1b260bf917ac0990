-- The library's power of a whole number is the one by which the mathematics counts.
use Rattle.std.proofs.Common.{◌≡◌, ℕ, zero, suc, ◌*◌, ◌%◌, ◌^◌, ◌==◌, ℤ, pos, negsuc, ◌*ℤ◌, neg_ℤ, Bool, true, false, not, cond, refl, sym, ap, ◌∙◌, mul-zero, arith}
use Rattle.std.specs.Int.{int_pow}
use native.Mathlib.Nat.{pow-zero, pow-succ'}
use Rattle.algebra.specs.Module.{pow}

minus_minus : (a m : ℕ) → negsuc a *ℤ neg_ℤ (pos m) ≡ pos (suc a * m)
minus_minus a zero = ap (λ n. neg_ℤ (pos n)) (mul-zero (suc a)) ∙ ap pos (sym (mul-zero (suc a)))
minus_minus a (suc m) = refl

-- a power of a negative number, by whether the exponent is even
negative : (a : ℕ) (even : Bool) (p : ℕ) → negsuc a *ℤ cond even (pos p) (neg_ℤ (pos p)) ≡ cond (not even) (pos (suc a * p)) (neg_ℤ (pos (suc a * p)))
negative a true p = refl
negative a false p = minus_minus a p

next_even : (n : ℕ) → (suc n % 2 == 0) ≡ not (n % 2 == 0)
next_even n = grind arith

pub pow_is : (z : ℤ) (e : ℕ) → int_pow z e ≡ pow z e
pow_is (pos a) zero = ap pos (pow-zero a)
pow_is (pos a) (suc n) = ap pos (pow-succ' a n) ∙ ap (λ y. pos a *ℤ y) (pow_is (pos a) n)
pow_is (negsuc a) zero = ap pos (pow-zero (suc a))
pow_is (negsuc a) (suc n) =
    (λ i. cond (next_even n i) (pos (pow-succ' (suc a) n i)) (neg_ℤ (pos (pow-succ' (suc a) n i))))
    ∙ sym (negative a (n % 2 == 0) (suc a ^ n)) ∙ ap (λ y. negsuc a *ℤ y) (pow_is (negsuc a) n)
