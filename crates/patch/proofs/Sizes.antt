-- The numbers of the first patch are within the ticket's sizes: a factor of an axis is, so is the product of the factors, and so is the sum of the terms.
use Rattle.std.proofs.Common.{◌≡◌, ℕ, ◌+◌, ◌*◌, ◌^◌, ◌≤◌, List, [], ◌∷◌, map, get_or, ℤ, pos, ◌+ℤ◌, ◌-ℤ◌, ◌*ℤ◌, neg_ℤ, nat_abs, sym, refl, ap, subst, ap₂, inl, inr, le_refl, mul-le-mul, arith}
use lib.ListN.{get_or-eq_default}
use Rattle.std.proofs.lemmas.List.FromFn.{get_or-map-range_with_len, length-map-range_with_len}
use Rattle.std.proofs.lemmas.Int.{ints}
use Rattle.std.proofs.lemmas.Bool.{cases_lt}
use Rattle.algebra.specs.Bernstein.{of_power}
use Rattle.algebra.specs.Form.{Index}
use Rattle.algebra.specs.Layout.{numbers, index_of}
use Rattle.algebra.specs.Pair.{Pair, pairs}
use Rattle.algebra.proofs.Integers.{natural}
use Rattle.algebra.proofs.Ring.{◌⊕◌, ◌⊗◌, ring, x₀, x₁, x₂, x₃}
use Rattle.algebra.proofs.Places.{index_is_index}
use Rattle.ticket.specs.WellFormed.{Content}
use Rattle.ticket.specs.declared.records.Axis.{Axis}
use Rattle.ticket.specs.declared.records.Term.{Term}
use Rattle.ticket.specs.declared.records.Relation.{Relation}
use Rattle.ticket.specs.declared.records.Relation.TheVariants.{Greater, AtLeast, Less, AtMost}
use Rattle.patch.specs.Point.{sum_over}
use Rattle.patch.specs.FirstPatch.{negated, turned_terms, turned, of_powers, first_number, first_patch}
use Rattle.patch.specs.Sizes.{WithinSizes}
use Rattle.patch.proofs.Bounds.{nat_abs_product, of_power_small}
use Rattle.ticket.specs.Sizes.{common, degrees_of, rest, scale, power_reach as reach, terms_size as sizes}

size_opposite : (x : ℤ) → nat_abs (neg_ℤ x) ≡ nat_abs x
size_opposite x = omega (arith, ints)

-- ---- several axes
pub product_size : (axes : List Axis) (es ks : List ℕ) → Index (degrees_of axes) ks → nat_abs (of_powers axes es ks) ≤ scale axes * reach axes es
product_size [] es ks i = omega arith
product_size (a ∷ more) es [] i = absurd i
product_size (a ∷ more) es (k ∷ ks) i =
    let l : ℕ = common a.degree in
    let r : ℕ = (nat_abs a.lower + nat_abs (a.upper -ℤ a.lower)) ^ get_or es 0 0 in
    let own = of_power l a.degree a.lower a.upper (get_or es 0 0) k in
    let e : l * r * (scale more * reach more (rest es)) ≡ l * scale more * (r * reach more (rest es)) =
    natural (ring (pos l ∷ pos r ∷ pos (scale more) ∷ pos (reach more (rest es)) ∷ []) (x₀ ⊗ x₁ ⊗ (x₂ ⊗ x₃)) (x₀ ⊗ x₂ ⊗ (x₁ ⊗ x₃)) tt) in
    omega (arith, e, nat_abs_product own (of_powers more (rest es) ks), mul-le-mul (of_power_small a.lower a.upper (get_or es 0 0) l a.degree k i.0) (product_size more (rest es) ks i.1))

-- ---- the sum of the terms, of one part of their pairs
abbrev part_sum : (Term → ℤ) → (Term → ℤ) → List Term → ℤ
part_sum f part [] = pos 0
part_sum f part (t ∷ ts) = f t *ℤ part t +ℤ part_sum f part ts

value_is : (f : Term → ℤ) (ts : List Term) → (sum_over f ts).value ≡ part_sum f (λ t. t.coefficient) ts
value_is f [] = refl
value_is f (t ∷ ts) = ap (λ z. f t *ℤ t.coefficient +ℤ z) (value_is f ts)

drift_is : (f : Term → ℤ) (ts : List Term) → (sum_over f ts).drift ≡ part_sum f (λ t. t.drift) ts
drift_is f [] = refl
drift_is f (t ∷ ts) = ap (λ z. f t *ℤ t.drift +ℤ z) (drift_is f ts)

module _ (axes : List Axis) (part : Term → ℤ) where
  pub sum_size : (ks : List ℕ) → Index (degrees_of axes) ks → (ts : List Term) → nat_abs (part_sum (λ t. of_powers axes t.exponents ks) part ts) ≤ scale axes * sizes part axes ts
  sum_size ks i [] = omega arith
  sum_size ks i (t ∷ ts) =
      let x : ℤ = of_powers axes t.exponents ks in
      let n : ℕ = nat_abs (part t) in
      let r : ℕ = reach axes t.exponents in
      let e : scale axes * r * n + scale axes * sizes part axes ts ≡ scale axes * (n * r + sizes part axes ts) =
      natural (ring (pos (scale axes) ∷ pos r ∷ pos n ∷ pos (sizes part axes ts) ∷ []) (x₀ ⊗ x₁ ⊗ x₂ ⊕ x₀ ⊗ x₃) (x₀ ⊗ (x₂ ⊗ x₁ ⊕ x₃)) tt) in
      let own : nat_abs (x *ℤ part t) ≤ scale axes * r * n = omega (arith, nat_abs_product x (part t), mul-le-mul (product_size axes t.exponents ks i) (le_refl n)) in
      omega (arith, ints, e, own, sum_size ks i ts)

  -- the opposite terms are as large
  module _ (same : (t : Term) → nat_abs (part (negated t)) ≡ nat_abs (part t)) where
    negated_sizes : (ts : List Term) → sizes part axes (map negated ts) ≡ sizes part axes ts
    negated_sizes [] = refl
    negated_sizes (t ∷ ts) = ap₂ (λ m n. m * reach axes t.exponents + n) (same t) (negated_sizes ts)

    turned_sizes : (r : Relation) (ts : List Term) → sizes part axes (turned_terms r ts) ≡ sizes part axes ts
    turned_sizes Greater ts = refl
    turned_sizes AtLeast ts = refl
    turned_sizes Less ts = negated_sizes ts
    turned_sizes AtMost ts = negated_sizes ts

    turned_sum_size : (ks : List ℕ) → Index (degrees_of axes) ks → (r : Relation) (ts : List Term) → nat_abs (part_sum (λ t. of_powers axes t.exponents ks) part (turned_terms r ts)) ≤ scale axes * sizes part axes ts
    turned_sum_size ks i r ts = subst (λ n. nat_abs (part_sum (λ t. of_powers axes t.exponents ks) part (turned_terms r ts)) ≤ scale axes * n) (turned_sizes r ts) (sum_size ks i (turned_terms r ts))

-- ---- the patch
module _ (c : Content) where
  abbrev ns : List ℕ
  ns = degrees_of c.axes

  number_within : (ks : List ℕ) → Index ns ks → WithinSizes c (first_number (turned c) ks)
  number_within ks i = record {
    value = omega (arith, ap nat_abs (value_is (λ t. of_powers c.axes t.exponents ks) (turned_terms c.relation c.terms)), turned_sum_size c.axes (λ t. t.coefficient) (λ t. size_opposite t.coefficient) ks i c.relation c.terms);
    drift = omega (arith, ap nat_abs (drift_is (λ t. of_powers c.axes t.exponents ks) (turned_terms c.relation c.terms)), turned_sum_size c.axes (λ t. t.drift) (λ t. size_opposite t.drift) ks i c.relation c.terms);
  }

  abbrev at : ℕ → Pair
  at i = first_number (turned c) (index_of ns i)

  pub first_patch_is_bounded : (i : ℕ) → WithinSizes c (get_or (first_patch (turned c)) i pairs.nought)
  first_patch_is_bounded i =
      elim (cases_lt i (numbers ns)) [
        | inl h ↦ subst (WithinSizes c) (sym (get_or-map-range_with_len at 0 (numbers ns) i i pairs.nought h (omega arith))) (number_within (index_of ns i) (index_is_index ns i h))
        | inr h ↦ subst (WithinSizes c) (sym (get_or-eq_default (first_patch (turned c)) pairs.nought (omega (arith, h, length-map-range_with_len at 0 (numbers ns))))) (record { value = omega arith; drift = omega arith })
      ]
