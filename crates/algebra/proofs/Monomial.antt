-- The Bernstein coefficients of a power u^i between the ends a and b.
use Rattle.std.proofs.Common.{◌≡◌, ℕ, zero, suc, ◌+◌, ◌-◌, ◌*◌, ◌/◌, ◌%◌, ◌≤◌, [], ◌∷◌, ℤ, pos, ◌+ℤ◌, ◌-ℤ◌, ◌*ℤ◌, sym, refl, ap, ◌∙◌, ap₂, mul_assoc, arith}
use native.Mathlib.Nat.{mul-div_cancel', dvd_of_mod-eq-zero}
use lib.IntN.{zero-*ℤ}
use Rattle.algebra.specs.Module.{integers, pow}
use Rattle.algebra.specs.Bernstein.{choose, total, eval, share, of_power}
use Rattle.algebra.proofs.Ring.{con, ◌⊕◌, ◌⊗◌, ◌⊖◌, ring, x₀, x₁, x₂, x₃, x₄, x₅, x₆}
use Rattle.algebra.proofs.Powers.{pow_add, pow_mul, cancel}
use Rattle.algebra.proofs.Pair.{integers_laws}
use Rattle.algebra.proofs.Binomial.{choose_positive, pascal, total_cong, total_times, eval_is_weighted_sum}
use Rattle.algebra.proofs.Linear.{linear_total}
use Rattle.algebra.proofs.Bernstein.{eval_cong, eval_plus, eval_times, eval_linear}

-- the coefficients `choose k m` are those of choose n m · s^m · (s + t)^(n-m)
eval_choose : (n m : ℕ) (s t : ℤ) → eval integers n s t (λ k. pos (choose k m)) ≡ pos (choose n m) *ℤ (pow s m *ℤ pow (s +ℤ t) (n - m))
eval_choose zero zero s t = refl
eval_choose zero (suc m) s t = sym (zero-*ℤ (s *ℤ pow s m *ℤ pow (s +ℤ t) (0 - suc m)))
eval_choose (suc n) zero s t =
    let e : suc n - 0 ≡ suc (n - 0) = omega arith in
    ap₂ (λ y z. t *ℤ y +ℤ s *ℤ z) (eval_choose n zero s t) (eval_choose n zero s t)
    ∙ ring (s ∷ t ∷ pow (s +ℤ t) (n - 0) ∷ []) (x₁ ⊗ (con (pos 1) ⊗ (con (pos 1) ⊗ x₂)) ⊕ x₀ ⊗ (con (pos 1) ⊗ (con (pos 1) ⊗ x₂))) (con (pos 1) ⊗ (con (pos 1) ⊗ ((x₀ ⊕ x₁) ⊗ x₂))) tt
    ∙ ap (λ j. pos 1 *ℤ (pos 1 *ℤ pow (s +ℤ t) j)) (sym e)
eval_choose (suc n) (suc m) s t =
    ap₂ (λ y z. t *ℤ y +ℤ s *ℤ z) (eval_choose n (suc m) s t)
    (eval_plus integers_laws n s t (λ k. pos (choose k m)) (λ k. pos (choose k (suc m))) ∙ ap₂ (λ y z. y +ℤ z) (eval_choose n m s t) (eval_choose n (suc m) s t))
    ∙ ring (s ∷ t ∷ pos (choose n m) ∷ pos (choose n (suc m)) ∷ pow s m ∷ pow (s +ℤ t) (n - suc m) ∷ pow (s +ℤ t) (n - m) ∷ [])
    (x₁ ⊗ (x₃ ⊗ (x₀ ⊗ x₄ ⊗ x₅)) ⊕ x₀ ⊗ (x₂ ⊗ (x₄ ⊗ x₆) ⊕ x₃ ⊗ (x₀ ⊗ x₄ ⊗ x₅))) (x₀ ⊗ x₄ ⊗ ((x₀ ⊕ x₁) ⊗ (x₃ ⊗ x₅)) ⊕ x₀ ⊗ x₄ ⊗ (x₂ ⊗ x₆)) tt
    ∙ pascal n m (s *ℤ pow s m) (s +ℤ t)

pub binomial : (n : ℕ) (x y : ℤ) → total integers (suc n) (λ m. pos (choose n m) *ℤ (pow x m *ℤ pow y (n - m))) ≡ pow (x +ℤ y) n
binomial n x y =
    let e : n - 0 ≡ n = omega arith in
    let w : ℕ → ℤ = λ m. pos (choose n m) *ℤ (pow x m *ℤ pow y (n - m)) in
    total_cong integers_laws (suc n) w (λ m. w m *ℤ pos 1) (λ m h. ring (w m ∷ []) x₀ (x₀ ⊗ con (pos 1)) tt)
    ∙ sym (eval_is_weighted_sum integers_laws n x y (λ k. pos 1)) ∙ eval_choose n 0 x y
    ∙ ring (pow (x +ℤ y) (n - 0) ∷ []) (con (pos 1) ⊗ (con (pos 1) ⊗ x₀)) x₀ tt ∙ ap (pow (x +ℤ y)) e

module _ (l n : ℕ) (divides : (m : ℕ) → m ≤ n → l % choose n m ≡ 0) where
  share_is : (k m : ℕ) → m ≤ n → choose n m * share l n k m ≡ l * choose k m
  share_is k m h =
      sym (mul_assoc (choose n m) (l / choose n m) (choose k m)) ∙ ap (λ z. z * choose k m) (mul-div_cancel' (choose n m) (dvd_of_mod-eq-zero (choose n m) (divides m h)))

  eval_share : (m : ℕ) (s t : ℤ) → m ≤ n → eval integers n s t (λ k. pos (share l n k m)) ≡ pos l *ℤ (pow s m *ℤ pow (s +ℤ t) (n - m))
  eval_share m s t h =
      let c : ℤ = pos (choose n m) in
      let d : ℕ → ℤ = λ k. pos (choose k m) in
      cancel (choose n m) _ _ (choose_positive n m h)
      (sym (eval_times integers_laws n s t c (λ k. pos (share l n k m)))
      ∙ eval_cong integers_laws n s t (λ k. c *ℤ pos (share l n k m)) (λ k. pos l *ℤ d k) (λ k p. ap pos (share_is k m h))
      ∙ eval_times integers_laws n s t (pos l) d ∙ ap (λ z. pos l *ℤ z) (eval_choose n m s t)
      ∙ ring (pos l ∷ c ∷ (pow s m *ℤ pow (s +ℤ t) (n - m)) ∷ []) (x₀ ⊗ (x₁ ⊗ x₂)) (x₁ ⊗ (x₀ ⊗ x₂)) tt)

  module _ (i : ℕ) (a b u w : ℤ) (in_range : i ≤ n) where
    abbrev part : ℕ → ℤ
    part m = pos (choose i m) *ℤ (pow (b -ℤ a) m *ℤ pow a (i - m))

    -- a term of the sum, as a term of the binomial theorem
    term : (s c : ℤ) (m : ℕ) → m ≤ i → part m *ℤ (pos l *ℤ (pow s m *ℤ pow c (n - m))) ≡ pos l *ℤ pow c (n - i) *ℤ (pos (choose i m) *ℤ (pow ((b -ℤ a) *ℤ s) m *ℤ pow (a *ℤ c) (i - m)))
    term s c m h =
        let e : n - m ≡ (n - i) + (i - m) = omega (arith, in_range) in
        ap (λ z. part m *ℤ (pos l *ℤ (pow s m *ℤ z))) (ap (pow c) e ∙ pow_add c (n - i) (i - m))
        ∙ ring (pos (choose i m) ∷ pow (b -ℤ a) m ∷ pow a (i - m) ∷ pos l ∷ pow s m ∷ pow c (n - i) ∷ pow c (i - m) ∷ [])
        (x₀ ⊗ (x₁ ⊗ x₂) ⊗ (x₃ ⊗ (x₄ ⊗ (x₅ ⊗ x₆)))) (x₃ ⊗ x₅ ⊗ (x₀ ⊗ (x₁ ⊗ x₄ ⊗ (x₂ ⊗ x₆)))) tt
        ∙ ap₂ (λ y z. pos l *ℤ pow c (n - i) *ℤ (pos (choose i m) *ℤ (y *ℤ z))) (sym (pow_mul (b -ℤ a) s m)) (sym (pow_mul a c (i - m)))

    power_evaluates : eval integers n (u -ℤ a *ℤ w) (b *ℤ w -ℤ u) (of_power l n a b i) ≡ pos l *ℤ (pow (b -ℤ a) n *ℤ (pow u i *ℤ pow w (n - i)))
    power_evaluates =
        let s : ℤ = u -ℤ a *ℤ w in
        let t : ℤ = b *ℤ w -ℤ u in
        let outer : ℤ = pos l *ℤ pow (s +ℤ t) (n - i) in
        let inner : ℕ → ℤ = λ m. pos (choose i m) *ℤ (pow ((b -ℤ a) *ℤ s) m *ℤ pow (a *ℤ (s +ℤ t)) (i - m)) in
        let whole : s +ℤ t ≡ (b -ℤ a) *ℤ w = ring (a ∷ b ∷ u ∷ w ∷ []) (x₂ ⊖ x₀ ⊗ x₃ ⊕ (x₁ ⊗ x₃ ⊖ x₂)) ((x₁ ⊖ x₀) ⊗ x₃) tt in
        let mean : (b -ℤ a) *ℤ s +ℤ a *ℤ (s +ℤ t) ≡ (b -ℤ a) *ℤ u =
        ring (a ∷ b ∷ u ∷ w ∷ []) ((x₁ ⊖ x₀) ⊗ (x₂ ⊖ x₀ ⊗ x₃) ⊕ x₀ ⊗ (x₂ ⊖ x₀ ⊗ x₃ ⊕ (x₁ ⊗ x₃ ⊖ x₂))) ((x₁ ⊖ x₀) ⊗ x₂) tt in
        let e : n ≡ (n - i) + i = omega (arith, in_range) in
        linear_total integers_laws (eval_linear integers_laws n s t) (suc i) part (λ m k. pos (share l n k m))
        ∙ total_cong integers_laws (suc i) (λ m. part m *ℤ eval integers n s t (λ k. pos (share l n k m))) (λ m. outer *ℤ inner m)
        (λ m h. ap (λ z. part m *ℤ z) (eval_share m s t (omega (arith, in_range))) ∙ term s (s +ℤ t) m (omega arith))
        ∙ total_times integers_laws (suc i) outer inner
        ∙ ap (λ z. outer *ℤ z) (binomial i ((b -ℤ a) *ℤ s) (a *ℤ (s +ℤ t)))
        ∙ ap₂ (λ y z. pos l *ℤ y *ℤ z) (ap (λ c. pow c (n - i)) whole ∙ pow_mul (b -ℤ a) w (n - i)) (ap (λ c. pow c i) mean ∙ pow_mul (b -ℤ a) u i)
        ∙ ring (pos l ∷ pow (b -ℤ a) (n - i) ∷ pow w (n - i) ∷ pow (b -ℤ a) i ∷ pow u i ∷ []) (x₀ ⊗ (x₁ ⊗ x₂) ⊗ (x₃ ⊗ x₄)) (x₀ ⊗ (x₁ ⊗ x₃ ⊗ (x₄ ⊗ x₂))) tt
        ∙ ap (λ z. pos l *ℤ (z *ℤ (pow u i *ℤ pow w (n - i)))) (sym (ap (pow (b -ℤ a)) e ∙ pow_add (b -ℤ a) (n - i) i))

pub of_power_evaluates : (l n i : ℕ) (a b u w : ℤ) → i ≤ n → ((m : ℕ) → m ≤ n → l % choose n m ≡ 0) →
    eval integers n (u -ℤ a *ℤ w) (b *ℤ w -ℤ u) (of_power l n a b i) ≡ pos l *ℤ (pow (b -ℤ a) n *ℤ (pow u i *ℤ pow w (n - i)))
of_power_evaluates l n i a b u w h d = power_evaluates l n d i a b u w h
