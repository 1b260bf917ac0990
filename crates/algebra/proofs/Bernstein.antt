-- The Bernstein form along one axis: linear, its value at the ends, its mirror image, its halves, its sign.
use Rattle.std.proofs.Common.{◌≡◌, ℕ, zero, suc, ◌-◌, ◌≤◌, [], ◌∷◌, ℤ, pos, ◌+ℤ◌, ◌-ℤ◌, ◌*ℤ◌, ◌≤ℤ◌, ◌<ℤ◌, sym, refl, ap, ◌∙◌, ap₂, arith}
use mathlib.Core.Path.{fun_ext}
use Rattle.algebra.specs.Module.{Ops, integers, pow}
use Rattle.algebra.specs.Pair.{Pair, pairs, IsPositive, NotNegative}
use Rattle.algebra.specs.Bernstein.{eval, binomial_sum, low, high}
use Rattle.algebra.proofs.Ring.{con, ◌⊕◌, ◌⊗◌, ◌⊖◌, x₀, x₁, x₂, x₃}
use Rattle.algebra.proofs.Module.{Module, linear, ◌⊞◌, ◌⊡◌, v₀, v₁, v₂, v₃, none_of}
use Rattle.algebra.proofs.Pair.{pairs_laws}
use Rattle.algebra.proofs.Signs.{not_negative_mean, positive_mean}
use Rattle.algebra.proofs.Linear.{Linear}
use Rattle.algebra.proofs.Binomial.{binomial_sum_is_eval}

module _ {V : Type 0} {O : Ops V} (M : Module O) where
  open O use {plus, times}
  open M use {plus_comm, times_times, one_times}

  pub eval_cong : (n : ℕ) (s t : ℤ) (f g : ℕ → V) → ((k : ℕ) → k ≤ n → f k ≡ g k) → eval O n s t f ≡ eval O n s t g
  eval_cong zero s t f g h = h 0 (omega arith)
  eval_cong (suc n) s t f g h =
      ap₂ (λ y z. plus (times t y) (times s z)) (eval_cong n s t f g (λ k p. h k (omega arith)))
      (eval_cong n s t (λ i. f (suc i)) (λ i. g (suc i)) (λ k p. h (suc k) (omega arith)))

  -- ---- linear
  pub eval_plus : (n : ℕ) (s t : ℤ) (f g : ℕ → V) → eval O n s t (λ i. plus (f i) (g i)) ≡ plus (eval O n s t f) (eval O n s t g)
  eval_plus zero s t f g = refl
  eval_plus (suc n) s t f g =
      ap₂ (λ y z. plus (times t y) (times s z)) (eval_plus n s t f g) (eval_plus n s t (λ i. f (suc i)) (λ i. g (suc i)))
      ∙ linear M (s ∷ t ∷ []) (eval O n s t f ∷ eval O n s t g ∷ eval O n s t (λ i. f (suc i)) ∷ eval O n s t (λ i. g (suc i)) ∷ [])
      (x₁ ⊡ (v₀ ⊞ v₁) ⊞ x₀ ⊡ (v₂ ⊞ v₃)) ((x₁ ⊡ v₀ ⊞ x₀ ⊡ v₂) ⊞ (x₁ ⊡ v₁ ⊞ x₀ ⊡ v₃)) tt

  pub eval_times : (n : ℕ) (s t a : ℤ) (f : ℕ → V) → eval O n s t (λ i. times a (f i)) ≡ times a (eval O n s t f)
  eval_times zero s t a f = refl
  eval_times (suc n) s t a f =
      ap₂ (λ y z. plus (times t y) (times s z)) (eval_times n s t a f) (eval_times n s t a (λ i. f (suc i)))
      ∙ linear M (s ∷ t ∷ a ∷ []) (eval O n s t f ∷ eval O n s t (λ i. f (suc i)) ∷ [])
      (x₁ ⊡ x₂ ⊡ v₀ ⊞ x₀ ⊡ x₂ ⊡ v₁) (x₂ ⊡ (x₁ ⊡ v₀ ⊞ x₀ ⊡ v₁)) tt

  pub eval_linear : (n : ℕ) (s t : ℤ) → Linear O (eval O n s t)
  eval_linear n s t = record { keeps_plus = eval_plus n s t; keeps_times = eval_times n s t }

  -- whole coefficients, each times the same vector
  pub eval_factor : (n : ℕ) (s t : ℤ) (b : ℕ → ℤ) (v : V) → eval O n s t (λ k. times (b k) v) ≡ times (eval integers n s t b) v
  eval_factor zero s t b v = refl
  eval_factor (suc n) s t b v =
      ap₂ (λ y z. plus (times t y) (times s z)) (eval_factor n s t b v) (eval_factor n s t (λ i. b (suc i)) v)
      ∙ linear M (s ∷ t ∷ eval integers n s t b ∷ eval integers n s t (λ i. b (suc i)) ∷ []) (v ∷ []) (x₁ ⊡ x₂ ⊡ v₀ ⊞ x₀ ⊡ x₃ ⊡ v₀) ((x₁ ⊗ x₂ ⊕ x₀ ⊗ x₃) ⊡ v₀) tt

  -- ---- the ends
  pub eval_at_lower_end : (n : ℕ) (t : ℤ) (f : ℕ → V) → eval O n (pos 0) t f ≡ times (pow t n) (f 0)
  eval_at_lower_end zero t f = sym (one_times (f 0))
  eval_at_lower_end (suc n) t f =
      ap (λ y. plus (times t y) (times (pos 0) (eval O n (pos 0) t (λ i. f (suc i))))) (eval_at_lower_end n t f)
      ∙ linear M (t ∷ pow t n ∷ []) (f 0 ∷ eval O n (pos 0) t (λ i. f (suc i)) ∷ []) (x₀ ⊡ x₁ ⊡ v₀ ⊞ con (pos 0) ⊡ v₁) ((x₀ ⊗ x₁) ⊡ v₀) tt

  pub eval_mirrors : (n : ℕ) (s t : ℤ) (f : ℕ → V) → eval O n s t f ≡ eval O n t s (λ k. f (n - k))
  eval_mirrors zero s t f = refl
  eval_mirrors (suc n) s t f =
      let g : ℕ → V = λ k. f (suc n - k) in
      ap₂ (λ y z. plus (times t y) (times s z))
      (eval_mirrors n s t f ∙ eval_cong n t s (λ k. f (n - k)) (λ k. g (suc k)) (λ k h. ap f (omega arith)))
      (eval_mirrors n s t (λ i. f (suc i)) ∙ eval_cong n t s (λ k. f (suc (n - k))) g (λ k h. ap f (omega arith)))
      ∙ plus_comm (times t (eval O n t s (λ k. g (suc k)))) (times s (eval O n t s g))

  pub eval_at_upper_end : (n : ℕ) (s : ℤ) (f : ℕ → V) → eval O n s (pos 0) f ≡ times (pow s n) (f n)
  eval_at_upper_end n s f = eval_mirrors n s (pos 0) f ∙ eval_at_lower_end n s (λ k. f (n - k)) ∙ ap (λ k. times (pow s n) (f k)) (omega arith)

  -- ---- the halves
  binomial_sum_next : (k : ℕ) (f : ℕ → V) → binomial_sum O (suc k) f ≡ binomial_sum O k (λ i. plus (f i) (f (suc i)))
  binomial_sum_next k f =
      binomial_sum_is_eval M (suc k) f ∙ ap₂ plus (one_times _) (one_times _) ∙ sym (eval_plus k (pos 1) (pos 1) f (λ i. f (suc i)))
      ∙ sym (binomial_sum_is_eval M k (λ i. plus (f i) (f (suc i))))

  low_same : (n : ℕ) (f : ℕ → V) (k : ℕ) → k ≤ n → low O (suc n) f k ≡ times (pos 2) (low O n f k)
  low_same n f k h =
      let e : suc n - k ≡ suc (n - k) = omega arith in
      ap (λ m. times (pow (pos 2) m) (binomial_sum O k f)) e ∙ times_times (pos 2) (pow (pos 2) (n - k)) (binomial_sum O k f)

  low_next : (n : ℕ) (f : ℕ → V) (k : ℕ) → low O (suc n) f (suc k) ≡ low O n (λ i. plus (f i) (f (suc i))) k
  low_next n f k =
      let e : suc n - suc k ≡ n - k = omega arith in
      ap₂ (λ m y. times (pow (pos 2) m) y) e (binomial_sum_next k f)

  pub low_is_lower_half : (n : ℕ) (s t : ℤ) (f : ℕ → V) → eval O n (pos 2 *ℤ s) (t -ℤ s) (low O n f) ≡ times (pow (pos 2) n) (eval O n s t f)
  low_is_lower_half zero s t f = linear M [] (f 0 ∷ []) (con (pos 1) ⊡ (con (pos 1) ⊡ v₀ ⊞ none_of)) (con (pos 1) ⊡ v₀) tt
  low_is_lower_half (suc n) s t f =
      let E : (ℕ → V) → V = eval O n (pos 2 *ℤ s) (t -ℤ s) in
      let first : E (low O (suc n) f) ≡ times (pos 2) (times (pow (pos 2) n) (eval O n s t f)) =
      eval_cong n (pos 2 *ℤ s) (t -ℤ s) (low O (suc n) f) (λ k. times (pos 2) (low O n f k)) (low_same n f)
      ∙ eval_times n (pos 2 *ℤ s) (t -ℤ s) (pos 2) (low O n f) ∙ ap (times (pos 2)) (low_is_lower_half n s t f) in
      let second : E (λ k. low O (suc n) f (suc k)) ≡ times (pow (pos 2) n) (plus (eval O n s t f) (eval O n s t (λ i. f (suc i)))) =
      ap E (fun_ext (low_next n f)) ∙ low_is_lower_half n s t (λ i. plus (f i) (f (suc i))) ∙ ap (times (pow (pos 2) n)) (eval_plus n s t f (λ i. f (suc i))) in
      ap₂ (λ y z. plus (times (t -ℤ s) y) (times (pos 2 *ℤ s) z)) first second
      ∙ linear M (s ∷ t ∷ pow (pos 2) n ∷ []) (eval O n s t f ∷ eval O n s t (λ i. f (suc i)) ∷ [])
      ((x₁ ⊖ x₀) ⊡ con (pos 2) ⊡ x₂ ⊡ v₀ ⊞ (con (pos 2) ⊗ x₀) ⊡ x₂ ⊡ (v₀ ⊞ v₁)) ((con (pos 2) ⊗ x₂) ⊡ (x₁ ⊡ v₀ ⊞ x₀ ⊡ v₁)) tt

  pub high_is_upper_half : (n : ℕ) (s t : ℤ) (f : ℕ → V) → eval O n (s -ℤ t) (pos 2 *ℤ t) (high O n f) ≡ times (pow (pos 2) n) (eval O n s t f)
  high_is_upper_half n s t f =
      let back : ℕ → V = λ r. f (n - r) in
      eval_mirrors n (s -ℤ t) (pos 2 *ℤ t) (high O n f)
      ∙ eval_cong n (pos 2 *ℤ t) (s -ℤ t) (λ k. high O n f (n - k)) (low O n back) (λ k h. ap (λ j. times (pow (pos 2) (n - k)) (binomial_sum O j back)) (omega arith))
      ∙ low_is_lower_half n t s back ∙ ap (times (pow (pos 2) n)) (sym (eval_mirrors n s t f))

  -- ---- what the weighted mean of two keeps, the form keeps
  pub eval_keeps : (P : V → Type 0) (n : ℕ) (s t : ℤ) → ((x y : V) → P x → P y → P (plus (times t x) (times s y))) → (f : ℕ → V) → ((k : ℕ) → k ≤ n → P (f k)) → P (eval O n s t f)
  eval_keeps P zero s t mean f h = h 0 (omega arith)
  eval_keeps P (suc n) s t mean f h =
      mean (eval O n s t f) (eval O n s t (λ i. f (suc i))) (eval_keeps P n s t mean f (λ k p. h k (omega arith)))
      (eval_keeps P n s t mean (λ i. f (suc i)) (λ k p. h (suc k) (omega arith)))

pub eval_keeps_positive : (n : ℕ) (s t : ℤ) (f : ℕ → Pair) → pos 0 ≤ℤ s → pos 0 ≤ℤ t → pos 0 <ℤ (s +ℤ t) → ((k : ℕ) → k ≤ n → IsPositive (f k)) → IsPositive (eval pairs n s t f)
eval_keeps_positive n s t f hs ht h = eval_keeps pairs_laws IsPositive n s t (λ x y. positive_mean s t x y hs ht h) f

pub eval_keeps_not_negative : (n : ℕ) (s t : ℤ) (f : ℕ → Pair) → pos 0 ≤ℤ s → pos 0 ≤ℤ t → ((k : ℕ) → k ≤ n → NotNegative (f k)) → NotNegative (eval pairs n s t f)
eval_keeps_not_negative n s t f hs ht = eval_keeps pairs_laws NotNegative n s t (λ x y. not_negative_mean s t x y hs ht) f
