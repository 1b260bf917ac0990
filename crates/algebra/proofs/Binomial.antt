-- Binomial coefficients, sums over a range, and the Bernstein form as an explicit sum.
use Rattle.std.proofs.Common.{◌≡◌, ℕ, zero, suc, ◌-◌, ◌<◌, ◌≤◌, [], ◌∷◌, ℤ, pos, ◌+ℤ◌, ◌*ℤ◌, sym, refl, ap, ◌∙◌, ap₂, arith}
use native.Mathlib.Decide.{dec_lt}
use lib.IntN.{zero-*ℤ}
use Rattle.algebra.specs.Module.{Ops, pow}
use Rattle.algebra.specs.Bernstein.{choose, total, eval, binomial_sum}
use Rattle.algebra.proofs.Ring.{con, ◌⊕◌, ◌⊗◌, ring, x₀, x₁, x₂, x₃, x₄, x₅, x₆}
use Rattle.algebra.proofs.Module.{Module, linear, ◌⊞◌, ◌⊡◌, v₀, v₁, v₂, none_of}
use Rattle.algebra.proofs.Powers.{pow_one}

pub choose_above : (n k : ℕ) → n < k → choose n k ≡ 0
choose_above n zero h = omega arith
choose_above zero (suc k) h = refl
choose_above (suc n) (suc k) h = omega (arith, choose_above n k (omega arith), choose_above n (suc k) (omega arith))

pub choose_positive : (n k : ℕ) → k ≤ n → 0 < choose n k
choose_positive n zero h = omega arith
choose_positive zero (suc k) h = omega arith
choose_positive (suc n) (suc k) h = omega (arith, choose_positive n k (omega arith))

-- one factor t more, since the power is one higher, or else the coefficient is 0
pascal_power : (n k : ℕ) (t : ℤ) → pos (choose n (suc k)) *ℤ pow t (n - k) ≡ t *ℤ (pos (choose n (suc k)) *ℤ pow t (n - suc k))
pascal_power n k t =
    elim (dec_lt k n) [
      | yes h ↦ (let d : n - k ≡ suc (n - suc k) = omega arith in
          ap (λ m. pos (choose n (suc k)) *ℤ pow t m) d ∙ ring (t ∷ pos (choose n (suc k)) ∷ pow t (n - suc k) ∷ []) (x₁ ⊗ (x₀ ⊗ x₂)) (x₀ ⊗ (x₁ ⊗ x₂)) tt)
      | no h ↦ (let z : choose n (suc k) ≡ 0 = choose_above n (suc k) (omega arith) in
          ap (λ c. pos c *ℤ pow t (n - k)) z ∙ ring (t ∷ pow t (n - k) ∷ pow t (n - suc k) ∷ []) (con (pos 0) ⊗ x₁) (x₀ ⊗ (con (pos 0) ⊗ x₂)) tt
          ∙ ap (λ c. t *ℤ (pos c *ℤ pow t (n - suc k))) (sym z))
    ]

-- Pascal's rule, where each coefficient stands with a power
pub pascal : (n k : ℕ) (a t : ℤ) →
    a *ℤ (t *ℤ (pos (choose n (suc k)) *ℤ pow t (n - suc k))) +ℤ a *ℤ (pos (choose n k) *ℤ pow t (n - k)) ≡ pos (choose (suc n) (suc k)) *ℤ (a *ℤ pow t (suc n - suc k))
pascal n k a t =
    let e : suc n - suc k ≡ n - k = omega arith in
    ap (λ z. a *ℤ z +ℤ a *ℤ (pos (choose n k) *ℤ pow t (n - k))) (sym (pascal_power n k t))
    ∙ ring (a ∷ pos (choose n k) ∷ pos (choose n (suc k)) ∷ pow t (n - k) ∷ []) (x₀ ⊗ (x₂ ⊗ x₃) ⊕ x₀ ⊗ (x₁ ⊗ x₃)) ((x₁ ⊕ x₂) ⊗ (x₀ ⊗ x₃)) tt
    ∙ ap (λ m. pos (choose (suc n) (suc k)) *ℤ (a *ℤ pow t m)) (sym e)

-- choose n k · s^k · t^(n-k), by the recursion of the form
abbrev weight : ℤ → ℤ → ℕ → ℕ → ℤ
weight s t zero zero = pos 1
weight s t zero (suc k) = pos 0
weight s t (suc n) zero = t *ℤ weight s t n zero
weight s t (suc n) (suc k) = t *ℤ weight s t n (suc k) +ℤ s *ℤ weight s t n k

weight_is : (s t : ℤ) (n k : ℕ) → weight s t n k ≡ pos (choose n k) *ℤ (pow s k *ℤ pow t (n - k))
weight_is s t zero zero = refl
weight_is s t zero (suc k) = sym (zero-*ℤ (s *ℤ pow s k *ℤ pow t (0 - suc k)))
weight_is s t (suc n) zero =
    let e : suc n - 0 ≡ suc (n - 0) = omega arith in
    ap (λ z. t *ℤ z) (weight_is s t n zero)
    ∙ ring (t ∷ pow t (n - 0) ∷ []) (x₀ ⊗ (con (pos 1) ⊗ (con (pos 1) ⊗ x₁))) (con (pos 1) ⊗ (con (pos 1) ⊗ (x₀ ⊗ x₁))) tt
    ∙ ap (λ m. pos 1 *ℤ (pos 1 *ℤ pow t m)) (sym e)
weight_is s t (suc n) (suc k) =
    ap₂ (λ y z. t *ℤ y +ℤ s *ℤ z) (weight_is s t n (suc k)) (weight_is s t n k)
    ∙ ring (s ∷ t ∷ pos (choose n k) ∷ pos (choose n (suc k)) ∷ pow s k ∷ pow t (n - suc k) ∷ pow t (n - k) ∷ [])
    (x₁ ⊗ (x₃ ⊗ (x₀ ⊗ x₄ ⊗ x₅)) ⊕ x₀ ⊗ (x₂ ⊗ (x₄ ⊗ x₆))) (x₀ ⊗ x₄ ⊗ (x₁ ⊗ (x₃ ⊗ x₅)) ⊕ x₀ ⊗ x₄ ⊗ (x₂ ⊗ x₆)) tt
    ∙ pascal n k (s *ℤ pow s k) t

module _ {V : Type 0} {O : Ops V} (M : Module O) where
  open O use {nought, plus, times}
  open M use {plus_nought, times_plus, one_times, zero_times}

  pub total_cong : (n : ℕ) (f g : ℕ → V) → ((k : ℕ) → k < n → f k ≡ g k) → total O n f ≡ total O n g
  total_cong zero f g h = refl
  total_cong (suc n) f g h = ap₂ plus (h 0 (omega arith)) (total_cong n (λ k. f (suc k)) (λ k. g (suc k)) (λ k p. h (suc k) (omega arith)))

  pub total_times : (n : ℕ) (a : ℤ) (f : ℕ → V) → total O n (λ k. times a (f k)) ≡ times a (total O n f)
  total_times zero a f = linear M (a ∷ []) [] none_of (x₀ ⊡ none_of) tt
  total_times (suc n) a f =
      ap (plus (times a (f 0))) (total_times n a (λ k. f (suc k))) ∙ sym (times_plus a (f 0) (total O n (λ k. f (suc k))))

  total_mean : (n : ℕ) (s t : ℤ) (a b : ℕ → ℤ) (g : ℕ → V) →
      total O n (λ k. times (t *ℤ a k +ℤ s *ℤ b k) (g k)) ≡ plus (times t (total O n (λ k. times (a k) (g k)))) (times s (total O n (λ k. times (b k) (g k))))
  total_mean zero s t a b g = linear M (s ∷ t ∷ []) [] none_of (x₁ ⊡ none_of ⊞ x₀ ⊡ none_of) tt
  total_mean (suc n) s t a b g =
      ap (plus (times (t *ℤ a 0 +ℤ s *ℤ b 0) (g 0))) (total_mean n s t (λ k. a (suc k)) (λ k. b (suc k)) (λ k. g (suc k)))
      ∙ linear M (s ∷ t ∷ a 0 ∷ b 0 ∷ []) (g 0 ∷ total O n (λ k. times (a (suc k)) (g (suc k))) ∷ total O n (λ k. times (b (suc k)) (g (suc k))) ∷ [])
      ((x₁ ⊗ x₂ ⊕ x₀ ⊗ x₃) ⊡ v₀ ⊞ (x₁ ⊡ v₁ ⊞ x₀ ⊡ v₂)) (x₁ ⊡ (x₂ ⊡ v₀ ⊞ v₁) ⊞ x₀ ⊡ (x₃ ⊡ v₀ ⊞ v₂)) tt

  -- any number of terms more, since their weights are 0
  eval_weights : (n m : ℕ) (s t : ℤ) (f : ℕ → V) → n < m → eval O n s t f ≡ total O m (λ k. times (weight s t n k) (f k))
  eval_weights n zero s t f h = absurd (omega arith)
  eval_weights zero (suc m) s t f h =
      sym (ap (plus (times (pos 1) (f 0))) (total_times m (pos 0) (λ k. f (suc k)) ∙ zero_times _) ∙ plus_nought _ ∙ one_times (f 0))
  eval_weights (suc n) (suc m) s t f h =
      ap₂ (λ y z. plus (times t y) (times s z)) (eval_weights n (suc m) s t f (omega arith)) (eval_weights n m s t (λ i. f (suc i)) (omega arith))
      ∙ linear M (s ∷ t ∷ weight s t n 0 ∷ []) (f 0 ∷ total O m (λ k. times (weight s t n (suc k)) (f (suc k))) ∷ total O m (λ k. times (weight s t n k) (f (suc k))) ∷ [])
      (x₁ ⊡ (x₂ ⊡ v₀ ⊞ v₁) ⊞ x₀ ⊡ v₂) ((x₁ ⊗ x₂) ⊡ v₀ ⊞ (x₁ ⊡ v₁ ⊞ x₀ ⊡ v₂)) tt
      ∙ ap (plus (times (t *ℤ weight s t n 0) (f 0))) (sym (total_mean m s t (λ k. weight s t n (suc k)) (weight s t n) (λ k. f (suc k))))

  pub eval_is_weighted_sum : (n : ℕ) (s t : ℤ) (f : ℕ → V) → eval O n s t f ≡ total O (suc n) (λ k. times (pos (choose n k) *ℤ (pow s k *ℤ pow t (n - k))) (f k))
  eval_is_weighted_sum n s t f = eval_weights n (suc n) s t f (omega arith) ∙ total_cong (suc n) _ _ (λ k h. ap (λ z. times z (f k)) (weight_is s t n k))

  pub binomial_sum_is_eval : (n : ℕ) (f : ℕ → V) → binomial_sum O n f ≡ eval O n (pos 1) (pos 1) f
  binomial_sum_is_eval n f =
      sym (eval_is_weighted_sum n (pos 1) (pos 1) f
      ∙ total_cong (suc n) _ _ (λ k h. ap (λ z. times z (f k))
      (ap₂ (λ y z. pos (choose n k) *ℤ (y *ℤ z)) (pow_one k) (pow_one (n - k)) ∙ ring (pos (choose n k) ∷ []) (x₀ ⊗ (con (pos 1) ⊗ con (pos 1))) x₀ tt)))
