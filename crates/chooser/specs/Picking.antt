-- Every answer is an axis wherever there is one, and what the signs say where they say nothing.
use Rattle.std.specs.Prelude.{◌≡◌, ℕ, ◌<◌, ◌≤◌, Bool, true, false, cond, List, [], ◌∷◌, length, ◌==◌, nat_lt, refl}
use Rattle.std.proofs.Common.{sym, ap, arith, le-ltb}
use Rattle.std.proofs.lemmas.List.MinMax.{IsStrictWeakOrder-by_number, IsStrictWeakOrder-flip}
use Rattle.algebra.specs.Layout.{numbers}
use Rattle.algebra.specs.declared.half.Half.{Half}
use Rattle.algebra.specs.declared.half.Half.TheVariants.{Lower, Upper}
use Rattle.algebra.specs.declared.sign.Sign.{Sign}
use Rattle.chooser.specs.Choice.{Question, Meaning, Picks}
use Rattle.chooser.specs.BySigns.{changes, negatives, most_changed, half_first, choice_by_signs, by_signs}
use Rattle.chooser.specs.Evening.{halved, least_halved, evening}
use Rattle.chooser.specs.Bests.{First, first_is}

either_below : (t : Bool) (x y : ℕ × Half) (n : ℕ) → x.0 < n → y.0 < n → (cond t x y).0 < n
either_below true x y n p q = p
either_below false x y n p q = q

pub first_least : (q : Question) → 1 ≤ length q.degrees → First (λ i j. nat_lt (halved q i) (halved q j)) (length q.degrees) (least_halved q)
first_least q l = first_is _ (IsStrictWeakOrder-by_number (halved q)) (length q.degrees) l

pub evening_picks : (gap : ℕ) (below : Meaning) → Picks below → Picks (evening gap below)
evening_picks gap below p q l = either_below _ _ (below q) (length q.degrees) (first_least q l).inside (p q l)

pub first_most : (ns : List ℕ) (signs : List Sign) → 1 ≤ length ns → First (λ i j. nat_lt (changes ns signs j) (changes ns signs i)) (length ns) (most_changed ns signs)
first_most ns signs l = first_is _ (IsStrictWeakOrder-flip _ (IsStrictWeakOrder-by_number (changes ns signs))) (length ns) l

pub by_signs_picks : Picks by_signs
by_signs_picks q l = either_below _ _ (0, Lower) (length q.degrees) (first_most q.degrees q.signs l).inside l

-- ---- signs that say nothing
same_either_way : {A : Type 0} (t : Bool) (x y : A) → x ≡ y → cond t x y ≡ y
same_either_way true x y e = e
same_either_way false x y e = refl

half_of_none : (signs : List Sign) → half_first [] signs 0 ≡ Lower
half_of_none signs = ap (λ t. cond t Upper Lower) (le-ltb (negatives [] signs 0 0) (negatives [] signs 0 0) (omega arith))

no_axes : (ns : List ℕ) (signs : List Sign) → length ns ≡ 0 → choice_by_signs ns signs ≡ (0, Lower)
no_axes [] signs e = ap (λ (h : Half). let a : ℕ × Half = (0, h) in a) (half_of_none signs)
no_axes (n ∷ ns) signs e = absurd (let z : ⊥ = omega arith in z)

pub by_no_axes : (q : Question) → length q.degrees ≡ 0 → (0, Lower) ≡ by_signs q
by_no_axes q e = sym (same_either_way (numbers q.degrees == length q.signs) (choice_by_signs q.degrees q.signs) (0, Lower) (no_axes q.degrees q.signs e))

pub by_odd_signs : (q : Question) → (numbers q.degrees == length q.signs) ≡ false → (0, Lower) ≡ by_signs q
by_odd_signs q e = sym (ap (λ t. cond t (choice_by_signs q.degrees q.signs) (0, Lower)) e)
