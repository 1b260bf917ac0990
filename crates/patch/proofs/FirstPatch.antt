-- The first patch stands for the polynomial on the whole box: axis by axis for one term, and the sum of the terms.
use Rattle.std.proofs.Common.{◌≡◌, ℕ, suc, ◌+◌, ◌-◌, ◌≤◌, List, [], ◌∷◌, get_or, ℤ, pos, ◌-ℤ◌, ◌*ℤ◌, sym, refl, ap, ◌∙◌, subst, ap₂, mul-zero, arith}
use mathlib.Core.Path.{fun_ext}
use lib.ListN.{length-map}
use Rattle.std.specs.List.{AllByRecursion}
use Rattle.std.proofs.lemmas.List.FromFn.{get_or-map-range_with_len, length-map-range_with_len}
use Rattle.algebra.specs.Module.{integers, pow}
use Rattle.algebra.specs.Bernstein.{eval, of_power}
use Rattle.algebra.specs.Form.{Axis as Distances, Index, form}
use Rattle.algebra.specs.Layout.{numbers, place_of, index_of, patch}
use Rattle.algebra.specs.Pair.{Pair, pairs, sum, multiple}
use Rattle.algebra.proofs.Powers.{pow_add}
use Rattle.algebra.proofs.Ring.{con, ◌⊗◌, x₀, x₁, x₂, x₃, x₄, x₅, x₆}
use Rattle.algebra.proofs.Module.{linear, times_nought, ◌⊞◌, ◌⊡◌, v₀, v₁}
use Rattle.algebra.proofs.Pair.{pairs_laws}
use Rattle.algebra.proofs.Linear.{linear_nought}
use Rattle.algebra.proofs.Bernstein.{eval_factor}
use Rattle.algebra.proofs.Monomial.{of_power_evaluates}
use Rattle.algebra.proofs.Form.{form_cong, form_plus, form_times, form_linear}
use Rattle.algebra.proofs.Places.{place_below, index_of_place}
use Rattle.ticket.specs.WellFormed.{Content, Formed}
use Rattle.ticket.specs.declared.records.Axis.{Axis}
use Rattle.ticket.specs.declared.records.Term.{Term}
use Rattle.patch.specs.Point.{Point, sum_of, powers, monomial_at, pair_of, sum_over, value_at}
use Rattle.patch.specs.Box.{entire, whole_box, seen, seen_all, from_ends, factor}
use Rattle.patch.specs.FirstPatch.{turned, of_powers, first_number, first_patch}
use Rattle.patch.specs.Meaning.{Represents}
use Rattle.patch.proofs.Formed.{Sound, Fits, axes_sound, turned_terms_fit}
use Rattle.patch.proofs.Box.{seen_degrees, seen_entire}
use Rattle.patch.proofs.Table.{common_divided}
use Rattle.ticket.specs.Sizes.{common, degrees_of, rest}

-- ---- one term
pub fits_sum : (ns es : List ℕ) → Fits ns es → sum_of es ≤ sum_of ns
fits_sum [] [] f = omega arith
fits_sum [] (e ∷ es) f = omega (arith, fits_sum [] es (λ j. f (suc j)), f 0)
fits_sum (n ∷ ns) [] f = omega arith
fits_sum (n ∷ ns) (e ∷ es) f = omega (arith, fits_sum ns es (λ j. f (suc j)), f 0)

no_powers : (us : List ℤ) (es : List ℕ) → Fits [] es → powers us es ≡ pos 1
no_powers us [] f = refl
no_powers us (e ∷ es) f = let z : e ≡ 0 = omega (arith, f 0) in ap₂ (λ n y. pow (get_or us 0 (pos 0)) n *ℤ y) z (no_powers (rest us) es (λ j. f (suc j)))

module _ (w : ℤ) (v : Pair) where
  abbrev TermIs : List Axis → List ℤ → List ℕ → Type 0
  TermIs axes us es = form pairs (seen_all axes (whole_box axes) us w) (λ ks. multiple (of_powers axes es ks) v) ≡ multiple (factor axes (whole_box axes) *ℤ monomial_at (degrees_of axes) us w es) v

  one_axis : (a : Axis) (u : ℤ) (e : ℕ) → a.degree ≤ 8 → e ≤ a.degree →
      eval integers a.degree (seen a entire u w).s (seen a entire u w).t (of_power (common a.degree) a.degree a.lower a.upper e) ≡ pos (common a.degree) *ℤ (pow (a.upper -ℤ a.lower) a.degree *ℤ (pow u e *ℤ pow w (a.degree - e)))
  one_axis a u e h k =
      ap (λ x. eval integers a.degree x.s x.t (of_power (common a.degree) a.degree a.lower a.upper e)) (seen_entire a u w)
      ∙ of_power_evaluates (common a.degree) a.degree e a.lower a.upper u w k (λ m. common_divided a.degree m h)

  one_more : (a : Axis) (more : List Axis) (us : List ℤ) (e : ℕ) (es : List ℕ) → a.degree ≤ 8 → e ≤ a.degree → sum_of es ≤ sum_of (degrees_of more) → TermIs more (rest us) es → TermIs (a ∷ more) us (e ∷ es)
  one_more a more us e es h k l later =
      let n : ℕ = a.degree in
      let u : ℤ = get_or us 0 (pos 0) in
      let left : ℕ = sum_of (degrees_of more) - sum_of es in
      let xs : List Distances = seen_all more (whole_box more) (rest us) w in
      let row : ℕ → ℤ = of_power (common n) n a.lower a.upper e in
      let inner : Pair = multiple (factor more (whole_box more) *ℤ (powers (rest us) es *ℤ pow w left)) v in
      let rows : (i : ℕ) → form pairs xs (λ ks. multiple (row i *ℤ of_powers more es ks) v) ≡ multiple (row i) inner =
      λ i. ap (form pairs xs) (fun_ext (λ ks. pairs_laws.times_times (row i) (of_powers more es ks) v)) ∙ form_times pairs_laws xs (row i) (λ ks. multiple (of_powers more es ks) v)
      ∙ ap (multiple (row i)) later in
      let d : (n - e) + left ≡ (n + sum_of (degrees_of more)) - (e + sum_of es) = omega arith in
      ap (eval pairs n (seen a entire u w).s (seen a entire u w).t) (fun_ext rows)
      ∙ eval_factor pairs_laws n (seen a entire u w).s (seen a entire u w).t row inner
      ∙ ap (λ z. multiple z inner) (one_axis a u e h k)
      ∙ linear pairs_laws (pos (common n) ∷ pow (a.upper -ℤ a.lower) n ∷ pow u e ∷ pow w (n - e) ∷ factor more (whole_box more) ∷ powers (rest us) es ∷ pow w left ∷ []) (v ∷ [])
      ((x₀ ⊗ (x₁ ⊗ (x₂ ⊗ x₃))) ⊡ (x₄ ⊗ (x₅ ⊗ x₆)) ⊡ v₀) ((x₀ ⊗ con (pos 1) ⊗ x₁ ⊗ x₄ ⊗ (x₂ ⊗ x₅ ⊗ (x₃ ⊗ x₆))) ⊡ v₀) tt
      ∙ ap₂ (λ y z. multiple (pos (common n) *ℤ pow (pos 2) y *ℤ pow (a.upper -ℤ a.lower) n *ℤ factor more (whole_box more) *ℤ (pow u e *ℤ powers (rest us) es *ℤ z)) v)
      (sym (mul-zero n)) (sym (pow_add w (n - e) left) ∙ ap (pow w) d)

  one_term : (axes : List Axis) (us : List ℤ) (es : List ℕ) → AllByRecursion Sound axes → Fits (degrees_of axes) es → TermIs axes us es
  one_term [] us es s f =
      let z : 0 ≡ 0 - sum_of es = omega arith in
      ap₂ (λ y n. multiple (pos 1 *ℤ (y *ℤ pow w n)) v) (sym (no_powers us es f)) z
  one_term (a ∷ more) us [] s f = one_more a more us 0 [] s.0.small (omega arith) (omega arith) (one_term more (rest us) [] s.1 (λ j. omega arith))
  one_term (a ∷ more) us (e ∷ es) s f =
      one_more a more us e es s.0.small (f 0) (fits_sum (degrees_of more) es (λ j. f (suc j))) (one_term more (rest us) es s.1 (λ j. f (suc j)))

-- ---- the sum of the terms
form_sum : (xs : List Distances) (f : Term → List ℕ → ℤ) (g : Term → ℤ) (ts : List Term) → AllByRecursion (λ t. form pairs xs (λ ks. multiple (f t ks) (pair_of t)) ≡ multiple (g t) (pair_of t)) ts →
    form pairs xs (λ ks. sum_over (λ t. f t ks) ts) ≡ sum_over g ts
form_sum xs f g [] h = linear_nought pairs_laws (form_linear pairs_laws xs)
form_sum xs f g (t ∷ ts) h = form_plus pairs_laws xs (λ ks. multiple (f t ks) (pair_of t)) (λ ks. sum_over (λ t. f t ks) ts) ∙ ap₂ sum h.0 (form_sum xs f g ts h.1)

pub sum_over_times : (a : ℤ) (g : Term → ℤ) (ts : List Term) → sum_over (λ t. a *ℤ g t) ts ≡ multiple a (sum_over g ts)
sum_over_times a g [] = sym (times_nought pairs_laws a)
sum_over_times a g (t ∷ ts) =
    ap (sum (multiple (a *ℤ g t) (pair_of t))) (sum_over_times a g ts)
    ∙ linear pairs_laws (a ∷ g t ∷ []) (pair_of t ∷ sum_over g ts ∷ []) ((x₀ ⊗ x₁) ⊡ v₀ ⊞ x₀ ⊡ v₁) (x₀ ⊡ (x₁ ⊡ v₀ ⊞ v₁)) tt

pub all_terms : {P Q : Term → Type 0} → ((t : Term) → P t → Q t) → (ts : List Term) → AllByRecursion P ts → AllByRecursion Q ts
all_terms f [] h = tt
all_terms f (t ∷ ts) h = (f t h.0, all_terms f ts h.1)

module _ (c : Content) (sound : AllByRecursion Sound c.axes) (fit : AllByRecursion (λ t. Fits (degrees_of c.axes) t.exponents) c.terms) where
  abbrev axes : List Axis
  axes = c.axes

  first_value : (p : Point) → form pairs (from_ends axes (whole_box axes) p) (first_number c) ≡ multiple (factor axes (whole_box axes)) (value_at c p)
  first_value p =
      let w : ℤ = pos p.denominator in
      let at : Term → ℤ = λ t. monomial_at (degrees_of axes) p.numerators w t.exponents in
      form_sum (from_ends axes (whole_box axes) p) (λ t ks. of_powers axes t.exponents ks) (λ t. factor axes (whole_box axes) *ℤ at t) c.terms
      (all_terms (λ t f. one_term w (pair_of t) axes p.numerators t.exponents sound f) c.terms fit)
      ∙ sum_over_times (factor axes (whole_box axes)) at c.terms

  first_at : (ks : List ℕ) → Index (degrees_of axes) ks → patch pairs (degrees_of axes) (first_patch c) ks ≡ first_number c ks
  first_at ks i =
      get_or-map-range_with_len (λ i. first_number c (index_of (degrees_of axes) i)) 0 (numbers (degrees_of axes)) (place_of (degrees_of axes) ks) (place_of (degrees_of axes) ks) pairs.nought (place_below (degrees_of axes) ks i) (omega arith)
      ∙ ap (first_number c) (index_of_place (degrees_of axes) ks i)

  first_represents : Represents c (whole_box axes) (first_patch c)
  first_represents = record {
    part_for_each = length-map axes (λ _. entire);
    number_for_each = length-map-range_with_len (λ i. first_number c (index_of (degrees_of axes) i)) 0 (numbers (degrees_of axes));
    same_value = λ p. form_cong pairs_laws (from_ends axes (whole_box axes) p) (patch pairs (degrees_of axes) (first_patch c)) (first_number c)
        (λ ks i. first_at ks (subst (λ ns. Index ns ks) (seen_degrees axes (whole_box axes) p.numerators (pos p.denominator)) i))
        ∙ first_value p;
  }

pub first_patch_represents : (c : Content) → Formed c → Represents (turned c) (whole_box c.axes) (first_patch (turned c))
first_patch_represents c formed = first_represents (turned c) (axes_sound c formed) (turned_terms_fit c formed)
