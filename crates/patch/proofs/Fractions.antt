-- A point by other fractions: the value there is a positive multiple, so its sign is the same.
use Rattle.std.proofs.Common.{◌≡◌, ℕ, ◌+◌, ◌-◌, ◌≤◌, ◌↔◌, List, [], ◌∷◌, map, get_or, ℤ, pos, ◌*ℤ◌, sym, refl, ap, ◌∙◌, ap₂, arith}
use lib.IntN.{*ℤ-zero}
use Rattle.std.specs.List.{AllByRecursion}
use Rattle.std.proofs.lemmas.Int.{ints}
use Rattle.algebra.specs.Module.{pow}
use Rattle.algebra.specs.Pair.{sum, multiple, sign_of}
use Rattle.algebra.proofs.Powers.{pow_add, pow_mul, pow_positive}
use Rattle.algebra.proofs.Ring.{◌⊗◌, ring, x₀, x₁, x₂, x₃}
use Rattle.algebra.proofs.Signs.{multiple_keeps_sign}
use Rattle.ticket.specs.WellFormed.{Content, Formed}
use Rattle.ticket.specs.declared.records.Term.{Term}
use Rattle.patch.specs.Judging.{satisfies}
use Rattle.patch.specs.Point.{Point, enlarged, sum_of, powers, monomial_at, pair_of, sum_over, value_at, TrueAt}
use Rattle.patch.proofs.Formed.{Fits, terms_fit}
use Rattle.patch.proofs.FirstPatch.{fits_sum, sum_over_times, all_terms}
use Rattle.ticket.specs.Sizes.{degrees_of, rest}

module _ (k : ℤ) where
  abbrev times : List ℤ → List ℤ
  times us = map (λ u. k *ℤ u) us

  first_times : (us : List ℤ) → get_or (times us) 0 (pos 0) ≡ k *ℤ get_or us 0 (pos 0)
  first_times [] = sym (*ℤ-zero k)
  first_times (u ∷ us) = refl

  rest_times : (us : List ℤ) → rest (times us) ≡ times (rest us)
  rest_times [] = refl
  rest_times (u ∷ us) = refl

  powers_times : (us : List ℤ) (es : List ℕ) → powers (times us) es ≡ pow k (sum_of es) *ℤ powers us es
  powers_times us [] = refl
  powers_times us (e ∷ es) =
      let u : ℤ = get_or us 0 (pos 0) in
      ap₂ (λ y z. y *ℤ z) (ap (λ z. pow z e) (first_times us) ∙ pow_mul k u e) (ap (λ vs. powers vs es) (rest_times us) ∙ powers_times (rest us) es)
      ∙ ring (pow k e ∷ pow u e ∷ pow k (sum_of es) ∷ powers (rest us) es ∷ []) (x₀ ⊗ x₁ ⊗ (x₂ ⊗ x₃)) (x₀ ⊗ x₂ ⊗ (x₁ ⊗ x₃)) tt
      ∙ ap (λ z. z *ℤ (pow u e *ℤ powers (rest us) es)) (sym (pow_add k e (sum_of es)))

  monomial_times : (ns es : List ℕ) (us : List ℤ) (w : ℤ) → Fits ns es → monomial_at ns (times us) (k *ℤ w) es ≡ pow k (sum_of ns) *ℤ monomial_at ns us w es
  monomial_times ns es us w f =
      let left : ℕ = sum_of ns - sum_of es in
      let d : sum_of es + left ≡ sum_of ns = omega (arith, fits_sum ns es f) in
      ap₂ (λ y z. y *ℤ z) (powers_times us es) (pow_mul k w left)
      ∙ ring (pow k (sum_of es) ∷ powers us es ∷ pow k left ∷ pow w left ∷ []) (x₀ ⊗ x₁ ⊗ (x₂ ⊗ x₃)) (x₀ ⊗ x₂ ⊗ (x₁ ⊗ x₃)) tt
      ∙ ap (λ z. z *ℤ monomial_at ns us w es) (sym (pow_add k (sum_of es) left) ∙ ap (pow k) d)

sum_over_cong : (f g : Term → ℤ) (ts : List Term) → AllByRecursion (λ t. f t ≡ g t) ts → sum_over f ts ≡ sum_over g ts
sum_over_cong f g [] h = refl
sum_over_cong f g (t ∷ ts) h = ap₂ (λ a x. sum (multiple a (pair_of t)) x) h.0 (sum_over_cong f g ts h.1)

pub fractions_agree : (c : Content) (p : Point) (k : ℕ) → Formed c → 1 ≤ k → TrueAt c (enlarged k p) ↔ TrueAt c p
fractions_agree c p k formed h =
    let ns : List ℕ = degrees_of c.axes in
    let us : List ℤ = p.numerators in
    let w : ℤ = pos p.denominator in
    let a : ℤ = pow (pos k) (sum_of ns) in
    let at : Term → ℤ = λ t. monomial_at ns us w t.exponents in
    let value : value_at c (enlarged k p) ≡ multiple a (value_at c p) =
    sum_over_cong (λ t. monomial_at ns (times (pos k) us) (pos k *ℤ w) t.exponents) (λ t. a *ℤ at t) c.terms
    (all_terms (λ t f. monomial_times (pos k) ns t.exponents us w f) c.terms (terms_fit c formed))
    ∙ sum_over_times a at c.terms in
    let e = ap (satisfies c.relation) (ap sign_of value ∙ multiple_keeps_sign a (value_at c p) (pow_positive (pos k) (sum_of ns) (omega (arith, ints)))) in
    (λ t. sym e ∙ t, λ t. e ∙ t)
