-- The sign of a pair: what it says of the two parts, and how it fares under multiples, opposites and sums.
use Rattle.std.proofs.Common.{◌≡◌, ℕ, zero, suc, ℤ, pos, negsuc, ◌+ℤ◌, ◌*ℤ◌, neg_ℤ, ◌≤ℤ◌, ◌<ℤ◌, sym, refl, ap, ◌∙◌, subst, inl, inr, arith}
use lib.IntN.{zero-*ℤ, *ℤ-zero}
use Rattle.std.proofs.lemmas.Int.{ints, by_lt_z}
use Rattle.algebra.specs.Pair.{Pair, sum, multiple, opposite, sign_or, sign_of, turned, IsPositive, NotNegative, FirstOr}
use Rattle.algebra.specs.declared.sign.Sign.{Sign}
use Rattle.algebra.specs.declared.sign.Sign.TheVariants.{Negative, Zero, Positive}
use Rattle.algebra.proofs.Integers.{pos-*}
use Rattle.algebra.proofs.Pair.{pairs_laws}

-- ---- multiples and opposites
or_positive : (z : ℤ) (e : Sign) → pos 0 <ℤ z → sign_or z e ≡ Positive
or_positive (pos zero) e h = absurd (omega (arith, ints))
or_positive (pos (suc n)) e h = refl
or_positive (negsuc n) e h = absurd (omega (arith, ints))

or_negative : (z : ℤ) (e : Sign) → z <ℤ pos 0 → sign_or z e ≡ Negative
or_negative (pos n) e h = absurd (omega (arith, ints))
or_negative (negsuc n) e h = refl

or_multiple : (a z : ℤ) (e : Sign) → pos 0 <ℤ a → sign_or (a *ℤ z) e ≡ sign_or z e
or_multiple a (pos zero) e h = ap (λ y. sign_or y e) (*ℤ-zero a)
or_multiple a (pos (suc n)) e h = or_positive (a *ℤ pos (suc n)) e (pos-* a (pos (suc n)) h (omega (arith, ints)))
or_multiple a (negsuc n) e h = or_negative (a *ℤ negsuc n) e (omega (arith, ints, pos-* a (pos (suc n)) h (omega (arith, ints))))

or_opposite : (z : ℤ) (e : Sign) → sign_or (neg_ℤ z) (turned e) ≡ turned (sign_or z e)
or_opposite (pos zero) e = refl
or_opposite (pos (suc n)) e = refl
or_opposite (negsuc n) e = refl

pub multiple_keeps_sign : (a : ℤ) (x : Pair) → pos 0 <ℤ a → sign_of (multiple a x) ≡ sign_of x
multiple_keeps_sign a x h = or_multiple a x.value (sign_or (a *ℤ x.drift) Zero) h ∙ ap (sign_or x.value) (or_multiple a x.drift Zero h)

pub opposite_turns_sign : (x : Pair) → sign_of (opposite x) ≡ turned (sign_of x)
opposite_turns_sign x = ap (sign_or (neg_ℤ x.value)) (or_opposite x.drift Zero) ∙ or_opposite x.value (sign_or x.drift Zero)

-- two different signs are not equal: they have different numbers
abbrev level : Sign → ℕ
level Negative = 0
level Zero = 1
level Positive = 2

-- ---- the same by the parts
or_positive_is : (z : ℤ) (e : Sign) → sign_or z e ≡ Positive → FirstOr z (e ≡ Positive)
or_positive_is (pos zero) e p = inr (refl, p)
or_positive_is (pos (suc n)) e p = inl (omega (arith, ints))
or_positive_is (negsuc n) e p = absurd (omega (arith, ap level p))

or_not_negative_is : (z : ℤ) (e : Sign) → ¬ (sign_or z e ≡ Negative) → FirstOr z (¬ (e ≡ Negative))
or_not_negative_is (pos zero) e p = inr (refl, p)
or_not_negative_is (pos (suc n)) e p = inl (omega (arith, ints))
or_not_negative_is (negsuc n) e p = absurd (p refl)

positive_is : (z : ℤ) → sign_or z Zero ≡ Positive → pos 0 <ℤ z
positive_is z p = elim (or_positive_is z Zero p) [ inl h ↦ h | inr h ↦ absurd (omega (arith, ap level h.1)) ]

not_negative_is : (z : ℤ) → ¬ (sign_or z Zero ≡ Negative) → pos 0 ≤ℤ z
not_negative_is z p = elim (or_not_negative_is z Zero p) [ inl h ↦ omega (arith, ints) | inr h ↦ omega (arith, ints, h.0) ]

pub positive_parts : (x : Pair) → IsPositive x → FirstOr x.value (pos 0 <ℤ x.drift)
positive_parts x p = elim (or_positive_is x.value _ p) [ inl h ↦ inl h | inr h ↦ inr (h.0, positive_is x.drift h.1) ]

pub from_positive_parts : (x : Pair) → FirstOr x.value (pos 0 <ℤ x.drift) → IsPositive x
from_positive_parts x (inl h) = or_positive x.value _ h
from_positive_parts x (inr h) = ap (λ v. sign_or v (sign_or x.drift Zero)) h.0 ∙ or_positive x.drift Zero h.1

pub not_negative_parts : (x : Pair) → NotNegative x → FirstOr x.value (pos 0 ≤ℤ x.drift)
not_negative_parts x p = elim (or_not_negative_is x.value _ p) [ inl h ↦ inl h | inr h ↦ inr (h.0, not_negative_is x.drift h.1) ]

or_zero : (z : ℤ) → pos 0 ≤ℤ z → ¬ (sign_or z Zero ≡ Negative)
or_zero (pos zero) h e = omega (arith, ap level e)
or_zero (pos (suc n)) h e = omega (arith, ap level e)
or_zero (negsuc n) h e = omega (arith, ints)

pub from_not_negative_parts : (x : Pair) → FirstOr x.value (pos 0 ≤ℤ x.drift) → NotNegative x
from_not_negative_parts x (inl h) e = omega (arith, ap level (sym (or_positive x.value _ h) ∙ e))
from_not_negative_parts x (inr h) e = or_zero x.drift h.1 (sym (ap (λ v. sign_or v (sign_or x.drift Zero)) h.0) ∙ e)

pub positive_not_negative : (x : Pair) → IsPositive x → NotNegative x
positive_not_negative x p e = omega (arith, ap level (sym p ∙ e))

-- ---- sums
add_parts : {P Q R : Type 0} (v w : ℤ) → (P → Q → R) → FirstOr v P → FirstOr w Q → FirstOr (v +ℤ w) R
add_parts v w f (inl h) (inl k) = inl (omega (arith, ints))
add_parts v w f (inl h) (inr k) = inl (omega (arith, ints, k.0))
add_parts v w f (inr h) (inl k) = inl (omega (arith, ints, h.0))
add_parts v w f (inr h) (inr k) = inr (omega (arith, ints, h.0, k.0), f h.1 k.1)

pub positive_plus : (x y : Pair) → IsPositive x → NotNegative y → IsPositive (sum x y)
positive_plus x y p q = from_positive_parts (sum x y) (add_parts x.value y.value (λ h k. omega (arith, ints)) (positive_parts x p) (not_negative_parts y q))

pub not_negative_plus : (x y : Pair) → NotNegative x → NotNegative y → NotNegative (sum x y)
not_negative_plus x y p q = from_not_negative_parts (sum x y) (add_parts x.value y.value (λ h k. omega (arith, ints)) (not_negative_parts x p) (not_negative_parts y q))

pub not_negative_times : (a : ℤ) (x : Pair) → pos 0 ≤ℤ a → NotNegative x → NotNegative (multiple a x)
not_negative_times a x h p =
    by_lt_z (pos 0) a
    (λ l. subst (λ z. ¬ (z ≡ Negative)) (sym (multiple_keeps_sign a x l)) p)
    (λ l. let z : a ≡ pos 0 = omega (arith, ints) in
    from_not_negative_parts (multiple a x) (inr (ap (λ b. b *ℤ x.value) z ∙ zero-*ℤ x.value, omega (arith, ints, ap (λ b. b *ℤ x.drift) z ∙ zero-*ℤ x.drift))))

-- the mean of two pairs by weights that are not negative, and not both 0
pub not_negative_mean : (s t : ℤ) (x y : Pair) → pos 0 ≤ℤ s → pos 0 ≤ℤ t → NotNegative x → NotNegative y → NotNegative (sum (multiple t x) (multiple s y))
not_negative_mean s t x y hs ht p q = not_negative_plus (multiple t x) (multiple s y) (not_negative_times t x ht p) (not_negative_times s y hs q)

pub positive_mean : (s t : ℤ) (x y : Pair) → pos 0 ≤ℤ s → pos 0 ≤ℤ t → pos 0 <ℤ (s +ℤ t) → IsPositive x → IsPositive y → IsPositive (sum (multiple t x) (multiple s y))
positive_mean s t x y hs ht h p q =
    by_lt_z (pos 0) t
    (λ l. positive_plus (multiple t x) (multiple s y) (multiple_keeps_sign t x l ∙ p) (not_negative_times s y hs (positive_not_negative y q)))
    (λ l. ap sign_of (pairs_laws.plus_comm (multiple t x) (multiple s y))
    ∙ positive_plus (multiple s y) (multiple t x) (multiple_keeps_sign s y (omega (arith, ints)) ∙ q) (not_negative_times t x ht (positive_not_negative x p)))
