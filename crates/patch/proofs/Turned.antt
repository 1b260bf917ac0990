-- The turned inequality is the ticket's own, and what all coefficients satisfy, the form satisfies.
use Rattle.std.proofs.Common.{◌≡◌, ℕ, true, ◌↔◌, List, [], ◌∷◌, map, ℤ, pos, negsuc, sym, refl, ap, ◌∙◌}
use Rattle.std.specs.List.{AllByRecursion}
use Rattle.std.proofs.lemmas.Bool.{true≢false}
use Rattle.algebra.specs.Form.{Axis as Distances, degrees, Between, Index, form}
use Rattle.algebra.specs.Pair.{Pair, pairs, sum, multiple, opposite, sign_of, turned as opposite_sign}
use Rattle.algebra.specs.declared.sign.Sign.{Sign}
use Rattle.algebra.specs.declared.sign.Sign.TheVariants.{Negative, Zero, Positive}
use Rattle.algebra.proofs.Ring.{con, x₀}
use Rattle.algebra.proofs.Module.{linear, ◌⊞◌, ◌⊡◌, v₀, v₁}
use Rattle.algebra.proofs.Pair.{pairs_laws, opposite_is_multiple}
use Rattle.algebra.proofs.Signs.{opposite_turns_sign}
use Rattle.algebra.proofs.Form.{form_keeps_positive, form_keeps_not_negative}
use Rattle.ticket.specs.WellFormed.{Content}
use Rattle.ticket.specs.declared.records.Term.{Term}
use Rattle.ticket.specs.declared.records.Relation.{Relation}
use Rattle.ticket.specs.declared.records.Relation.TheVariants.{Greater, AtLeast, Less, AtMost}
use Rattle.patch.specs.Judging.{satisfies}
use Rattle.patch.specs.Point.{Point, monomial_at, pair_of, sum_over, TrueAt}
use Rattle.patch.specs.FirstPatch.{negated, turned_terms, turned_relation, turned}
use Rattle.ticket.specs.Sizes.{degrees_of}

-- ---- the opposite polynomial
module _ (f : List ℕ → ℤ) where
  abbrev total_of : List Term → Pair
  total_of ts = sum_over (λ t. f t.exponents) ts

  pub sum_negated : (ts : List Term) → total_of (map negated ts) ≡ opposite (total_of ts)
  sum_negated [] = refl
  sum_negated (t ∷ ts) =
      let a : ℤ = f t.exponents in
      ap (sum (multiple a (opposite (pair_of t)))) (sum_negated ts)
      ∙ ap (λ x. sum (multiple a x) (opposite (total_of ts))) (opposite_is_multiple (pair_of t))
      ∙ ap (sum (multiple a (multiple (negsuc 0) (pair_of t)))) (opposite_is_multiple (total_of ts))
      ∙ linear pairs_laws (a ∷ []) (pair_of t ∷ total_of ts ∷ []) (x₀ ⊡ con (negsuc 0) ⊡ v₀ ⊞ con (negsuc 0) ⊡ v₁) (con (negsuc 0) ⊡ (x₀ ⊡ v₀ ⊞ v₁)) tt
      ∙ sym (opposite_is_multiple (sum (multiple a (pair_of t)) (total_of ts)))

less_turned : (s : Sign) → satisfies Greater (opposite_sign s) ≡ satisfies Less s
less_turned Negative = refl
less_turned Zero = refl
less_turned Positive = refl

at_most_turned : (s : Sign) → satisfies AtLeast (opposite_sign s) ≡ satisfies AtMost s
at_most_turned Negative = refl
at_most_turned Zero = refl
at_most_turned Positive = refl

same_answer : (f : List ℕ → ℤ) (r : Relation) (ts : List Term) → satisfies (turned_relation r) (sign_of (total_of f (turned_terms r ts))) ≡ satisfies r (sign_of (total_of f ts))
same_answer f Greater ts = refl
same_answer f AtLeast ts = refl
same_answer f Less ts = ap (λ x. satisfies Greater (sign_of x)) (sum_negated f ts) ∙ ap (satisfies Greater) (opposite_turns_sign (total_of f ts)) ∙ less_turned (sign_of (total_of f ts))
same_answer f AtMost ts = ap (λ x. satisfies AtLeast (sign_of x)) (sum_negated f ts) ∙ ap (satisfies AtLeast) (opposite_turns_sign (total_of f ts)) ∙ at_most_turned (sign_of (total_of f ts))

pub turned_is_same : (c : Content) (p : Point) → TrueAt (turned c) p ↔ TrueAt c p
turned_is_same c p =
    let e = same_answer (monomial_at (degrees_of c.axes) p.numerators (pos p.denominator)) c.relation c.terms in
    (λ h. sym e ∙ h, λ h. e ∙ h)

-- ---- what the form keeps
greater_is : (s : Sign) → satisfies Greater s ≡ true → s ≡ Positive
greater_is Negative h = absurd (true≢false (sym h))
greater_is Zero h = absurd (true≢false (sym h))
greater_is Positive h = refl

at_least_is : (s : Sign) → satisfies AtLeast s ≡ true → ¬ (s ≡ Negative)
at_least_is s h e = true≢false (sym h ∙ ap (satisfies AtLeast) e)

from_at_least : (s : Sign) → ¬ (s ≡ Negative) → satisfies AtLeast s ≡ true
from_at_least Negative h = absurd (h refl)
from_at_least Zero h = refl
from_at_least Positive h = refl

-- each coefficient is satisfied
abbrev EachSatisfies : Relation → List Distances → (List ℕ → Pair) → Type 0
EachSatisfies r xs f = (ks : List ℕ) → Index (degrees xs) ks → satisfies r (sign_of (f ks)) ≡ true

form_greater : (xs : List Distances) (f : List ℕ → Pair) → AllByRecursion Between xs → EachSatisfies Greater xs f → satisfies Greater (sign_of (form pairs xs f)) ≡ true
form_greater xs f b h = ap (satisfies Greater) (form_keeps_positive xs f b (λ ks i. greater_is (sign_of (f ks)) (h ks i)))

form_at_least : (xs : List Distances) (f : List ℕ → Pair) → AllByRecursion Between xs → EachSatisfies AtLeast xs f → satisfies AtLeast (sign_of (form pairs xs f)) ≡ true
form_at_least xs f b h = from_at_least (sign_of (form pairs xs f)) (form_keeps_not_negative xs f b (λ ks i. at_least_is (sign_of (f ks)) (h ks i)))

pub form_satisfies : (r : Relation) (xs : List Distances) (f : List ℕ → Pair) → AllByRecursion Between xs → EachSatisfies (turned_relation r) xs f → satisfies (turned_relation r) (sign_of (form pairs xs f)) ≡ true
form_satisfies Greater = form_greater
form_satisfies AtLeast = form_at_least
form_satisfies Less = form_greater
form_satisfies AtMost = form_at_least
