-- Powers, and the cancelling of a positive factor.
use Rattle.std.proofs.Common.{◌≡◌, ℕ, zero, suc, ◌+◌, ◌<◌, [], ◌∷◌, ℤ, pos, negsuc, ◌-ℤ◌, ◌*ℤ◌, ◌<ℤ◌, refl, ap, ◌∙◌, arith}
use Rattle.std.proofs.lemmas.Int.{ints}
use Rattle.algebra.specs.Module.{pow}
use Rattle.algebra.proofs.Integers.{pos-*}
use Rattle.algebra.proofs.Ring.{con, ◌⊗◌, ◌⊖◌, ring, x₀, x₁, x₂, x₃}

pub pow_one : (n : ℕ) → pow (pos 1) n ≡ pos 1
pow_one zero = refl
pow_one (suc n) = ap (λ z. pos 1 *ℤ z) (pow_one n)

pub pow_add : (x : ℤ) (m n : ℕ) → pow x (m + n) ≡ pow x m *ℤ pow x n
pow_add x zero n = let e : 0 + n ≡ n = omega arith in ap (pow x) e ∙ ring (pow x n ∷ []) x₀ (con (pos 1) ⊗ x₀) tt
pow_add x (suc m) n =
    let e : suc m + n ≡ suc (m + n) = omega arith in
    ap (pow x) e ∙ ap (λ z. x *ℤ z) (pow_add x m n) ∙ ring (x ∷ pow x m ∷ pow x n ∷ []) (x₀ ⊗ (x₁ ⊗ x₂)) (x₀ ⊗ x₁ ⊗ x₂) tt

pub pow_mul : (x y : ℤ) (n : ℕ) → pow (x *ℤ y) n ≡ pow x n *ℤ pow y n
pow_mul x y zero = refl
pow_mul x y (suc n) = ap (λ z. x *ℤ y *ℤ z) (pow_mul x y n) ∙ ring (x ∷ y ∷ pow x n ∷ pow y n ∷ []) (x₀ ⊗ x₁ ⊗ (x₂ ⊗ x₃)) (x₀ ⊗ x₂ ⊗ (x₁ ⊗ x₃)) tt

pub pow_positive : (x : ℤ) (n : ℕ) → pos 0 <ℤ x → pos 0 <ℤ pow x n
pow_positive x zero h = omega (arith, ints)
pow_positive x (suc n) h = pos-* x (pow x n) h (pow_positive x n h)

no_factor_of_zero : (c : ℕ) (z : ℤ) → 0 < c → pos c *ℤ z ≡ pos 0 → z ≡ pos 0
no_factor_of_zero c (pos zero) h e = refl
no_factor_of_zero c (pos (suc n)) h e = absurd (omega (arith, ints))
no_factor_of_zero c (negsuc n) h e = absurd (omega (arith, ints))

pub cancel : (c : ℕ) (x y : ℤ) → 0 < c → pos c *ℤ x ≡ pos c *ℤ y → x ≡ y
cancel c x y h e =
    let d : pos c *ℤ (x -ℤ y) ≡ pos c *ℤ x -ℤ pos c *ℤ y = ring (pos c ∷ x ∷ y ∷ []) (x₀ ⊗ (x₁ ⊖ x₂)) (x₀ ⊗ x₁ ⊖ x₀ ⊗ x₂) tt in
    omega (arith, ints, no_factor_of_zero c (x -ℤ y) h (omega (arith, ints, d, e)))
