-- A corner as a point: it is where the corner is, between the ends of the box, and on the ticket's axes where the ends that it uses are closed.
use Rattle.std.proofs.Common.{◌≡◌, ℕ, zero, suc, ◌+◌, ◌-◌, ◌^◌, ◌≤◌, Bool, true, false, not, ◌&&◌, eqb, List, [], ◌∷◌, map, length, get_or, ℤ, pos, ◌+ℤ◌, ◌-ℤ◌, ◌*ℤ◌, ◌≤ℤ◌, ◌<ℤ◌, sym, refl, ap, ◌∙◌, subst, arith, pow_pos}
use native.Mathlib.Nat.{pow-zero, pow-succ'}
use lib.IntN.{pos-*ℤ-pos}
use Rattle.std.specs.List.{AllByRecursion}
use Rattle.std.proofs.lemmas.Int.{ints, by_lt_z}
use Rattle.std.proofs.lemmas.Bool.{and_parts, eq-eqb, true≢false}
use Rattle.algebra.specs.Module.{pow}
use Rattle.algebra.specs.Form.{Axis as Distances, Between, distance, AtCorner}
use Rattle.algebra.specs.declared.half.Half.{Half}
use Rattle.algebra.specs.declared.half.Half.TheVariants.{Lower, Upper}
use Rattle.algebra.proofs.Integers.{pos-*, nonneg-*}
use Rattle.algebra.proofs.Powers.{pow_add, pow_positive}
use Rattle.algebra.proofs.Ring.{◌⊕◌, ◌⊗◌, ◌⊖◌, ring, x₀, x₁, x₂, x₃, x₄}
use Rattle.ticket.specs.declared.records.Axis.{Axis}
use Rattle.patch.specs.Judging.{closed, corner_inside}
use Rattle.patch.specs.Point.{UpTo, OnAxis, OnAxes, LiesIn}
use Rattle.patch.specs.Box.{Part, Box, Placed, entire, end_place, end_at, ends_of, box_ends, seen, seen_all, from_ends, BetweenEnds, Coordinate, coordinates, greatest, corner_point}
use Rattle.patch.proofs.Formed.{Sound}
use Rattle.patch.proofs.Box.{seen_apart}
use Rattle.ticket.specs.Sizes.{rest}

pub pos_pow : (x n : ℕ) → pow (pos x) n ≡ pos (x ^ n)
pos_pow x zero = ap pos (sym (pow-zero x))
pos_pow x (suc n) = ap (λ z. pos x *ℤ z) (pos_pow x n) ∙ pos-*ℤ-pos x (x ^ n) ∙ ap pos (sym (pow-succ' x n))

two_positive : (n : ℕ) → pos 0 <ℤ pow (pos 2) n
two_positive n = pow_positive (pos 2) n (omega (arith, ints))

up_to : (o : Bool) (x y : ℤ) → x ≤ℤ y → (x ≡ y → o ≡ false) → UpTo o x y
up_to true x y h k = by_lt_z x y (λ l. l) (λ l. absurd (true≢false (k (omega (arith, ints)))))
up_to false x y h k = h

-- ---- one axis: the end of a part over 2^halvings, brought over 2^g
abbrev brought : ℕ → Half → Axis → Part → ℤ
brought g e a x = end_at e a x *ℤ pow (pos 2) (g - x.halvings)

-- a closed end is the axis's own only where that is closed
record OpenEnds (a : Axis) (x : Part) (k : ℕ) : Type 0 where
  not_lower : k ≡ 0 → a.lower_open ≡ false
  not_upper : k ≡ 2 ^ x.halvings → a.upper_open ≡ false
  in_range : k ≤ 2 ^ x.halvings

not_open : (o b : Bool) → not (o && b) ≡ true → b ≡ true → o ≡ false
not_open true true e f = absurd (true≢false (sym e))
not_open true false e f = absurd (true≢false (sym f))
not_open false b e f = refl

open_ends : (e : Half) (a : Axis) (x : Part) → Placed x → closed e (ends_of a x) ≡ true → OpenEnds a x (end_place e x)
open_ends Lower a x p c = record {
  not_lower = λ k. not_open a.lower_open (eqb x.place 0) c (eq-eqb x.place 0 k);
  not_upper = λ k. absurd (omega (arith, p, k));
  in_range = omega (arith, p);
}
open_ends Upper a x p c = record {
  not_lower = λ k. absurd (omega (arith, k));
  not_upper = λ k. not_open a.upper_open (eqb (x.place + 1) (2 ^ x.halvings)) c (eq-eqb (x.place + 1) (2 ^ x.halvings) k);
  in_range = omega (arith, p);
}

module _ (g : ℕ) (e : Half) (a : Axis) (x : Part) (deep : x.halvings ≤ g) where
  abbrev P : ℤ
  P = pow (pos 2) x.halvings

  abbrev D : ℤ
  D = pow (pos 2) (g - x.halvings)

  power_is : pow (pos 2) g ≡ P *ℤ D
  power_is = let d : g ≡ x.halvings + (g - x.halvings) = omega (arith, deep) in ap (pow (pos 2)) d ∙ pow_add (pos 2) x.halvings (g - x.halvings)

  same_end : P *ℤ brought g e a x ≡ end_at e a x *ℤ pow (pos 2) g
  same_end = ring (P ∷ end_at e a x ∷ D ∷ []) (x₀ ⊗ (x₁ ⊗ x₂)) (x₁ ⊗ (x₀ ⊗ x₂)) tt ∙ ap (λ z. end_at e a x *ℤ z) (sym power_is)

  module _ (sound : Sound a) (placed : Placed x) (c : closed e (ends_of a x) ≡ true) where
    abbrev k : ℕ
    k = end_place e x

    ends : OpenEnds a x k
    ends = open_ends e a x placed c

    wide : pos 0 <ℤ (a.upper -ℤ a.lower)
    wide = omega (arith, ints, sound.apart)

    -- a product of the width, a number and D is not negative, and is 0 only where the number is
    stretched : (n : ℤ) → pos 0 ≤ℤ n → (pos 0 ≤ℤ ((a.upper -ℤ a.lower) *ℤ n *ℤ D)) × ((a.upper -ℤ a.lower) *ℤ n *ℤ D ≡ pos 0 → n ≡ pos 0)
    stretched n h =
        let d : pos 0 <ℤ D = two_positive (g - x.halvings) in (
          nonneg-* ((a.upper -ℤ a.lower) *ℤ n) D (nonneg-* (a.upper -ℤ a.lower) n (omega (arith, ints, wide)) h) (omega (arith, ints)),
          λ z. by_lt_z (pos 0) n (λ l. absurd (omega (arith, ints, z, pos-* ((a.upper -ℤ a.lower) *ℤ n) D (pos-* (a.upper -ℤ a.lower) n wide l) d))) (λ l. omega (arith, ints)),
        )

    on_axis : OnAxis a (brought g e a x) (pow (pos 2) g)
    on_axis =
        let known : List ℤ = P ∷ D ∷ a.lower ∷ a.upper ∷ pos k ∷ [] in
        let above : brought g e a x -ℤ a.lower *ℤ pow (pos 2) g ≡ (a.upper -ℤ a.lower) *ℤ pos k *ℤ D =
        ap (λ z. brought g e a x -ℤ a.lower *ℤ z) power_is ∙ ring known ((x₂ ⊗ x₀ ⊕ (x₃ ⊖ x₂) ⊗ x₄) ⊗ x₁ ⊖ x₂ ⊗ (x₀ ⊗ x₁)) ((x₃ ⊖ x₂) ⊗ x₄ ⊗ x₁) tt in
        let below : a.upper *ℤ pow (pos 2) g -ℤ brought g e a x ≡ (a.upper -ℤ a.lower) *ℤ (P -ℤ pos k) *ℤ D =
        ap (λ z. a.upper *ℤ z -ℤ brought g e a x) power_is ∙ ring known (x₃ ⊗ (x₀ ⊗ x₁) ⊖ (x₂ ⊗ x₀ ⊕ (x₃ ⊖ x₂) ⊗ x₄) ⊗ x₁) ((x₃ ⊖ x₂) ⊗ (x₀ ⊖ x₄) ⊗ x₁) tt in
        let from = stretched (pos k) (omega (arith, ints)) in
        let to = stretched (P -ℤ pos k) (omega (arith, ints, pos_pow 2 x.halvings, ends.in_range)) in
        record {
          from_lower = up_to a.lower_open (a.lower *ℤ pow (pos 2) g) (brought g e a x) (omega (arith, ints, above, from.0))
              (λ z. ends.not_lower (omega (arith, ints, from.1 (omega (arith, ints, above, z)))));
          to_upper = up_to a.upper_open (brought g e a x) (a.upper *ℤ pow (pos 2) g) (omega (arith, ints, below, to.0))
              (λ z. ends.not_upper (omega (arith, ints, pos_pow 2 x.halvings, to.1 (omega (arith, ints, below, z)))));
        }

-- the end has no distance from itself
at_end : (g : ℕ) (e : Half) (a : Axis) (x : Part) → x.halvings ≤ g → distance e (seen a x (brought g e a x) (pow (pos 2) g)) ≡ pos 0
at_end g Lower a x deep = omega (arith, ints, same_end g Lower a x deep)
at_end g Upper a x deep = omega (arith, ints, same_end g Upper a x deep)

end_between : (e : Half) (x : Distances) → pos 0 <ℤ (x.s +ℤ x.t) → distance e x ≡ pos 0 → Between x
end_between Lower x h z = record { above = omega (arith, ints, z); below = omega (arith, ints, z, h); apart = h }
end_between Upper x h z = record { above = omega (arith, ints, z, h); below = omega (arith, ints, z); apart = h }

-- ---- every axis
abbrev all_brought : ℕ → List Coordinate → List ℤ
all_brought g xs = map (λ x. x.numerator *ℤ pow (pos 2) (g - x.power)) xs

placed_first : (box : Box) → AllByRecursion Placed box → Placed (get_or box 0 entire) × AllByRecursion Placed (rest box)
placed_first [] p = (omega arith, tt)
placed_first (x ∷ box) p = p

-- what the corner's point is, given the ends that it uses
record Corner (axes : List Axis) (box : Box) (es : List Half) (us : List ℤ) (w : ℤ) : Type 0 where
  there : AtCorner (seen_all axes box us w) es
  between : AllByRecursion Between (seen_all axes box us w)
  on_axes : OnAxes axes us w

corner : (axes : List Axis) (box : Box) (es : List Half) (g : ℕ) → AllByRecursion Sound axes → AllByRecursion Placed box → length es ≡ length axes → corner_inside (box_ends axes box) es ≡ true → greatest (coordinates axes box es) ≤ g →
    Corner axes box es (all_brought g (coordinates axes box es)) (pow (pos 2) g)
corner [] box [] g s p l c d = record { there = tt; between = tt; on_axes = tt }
corner [] box (e ∷ es) g s p l c d = absurd (omega (arith, l))
corner (a ∷ more) box [] g s p l c d = absurd (omega (arith, l))
corner (a ∷ more) box (e ∷ es) g s p l c d =
    let x : Part = get_or box 0 entire in
    let deep : x.halvings ≤ g = omega (arith, d) in
    let inside = and_parts (closed e (ends_of a x)) (corner_inside (box_ends more (rest box)) es) c in
    let q = placed_first box p in
    let zero-there = at_end g e a x deep in
    let later = corner more (rest box) es g s.1 q.1 (omega (arith, l)) inside.1 (omega (arith, d)) in
    record {
      there = (zero-there, later.there);
      between = (end_between e (seen a x (brought g e a x) (pow (pos 2) g)) (seen_apart a (brought g e a x) (pow (pos 2) g) x s.0.apart (two_positive g)) zero-there, later.between);
      on_axes = (on_axis g e a x deep s.0 q.0 inside.0, later.on_axes);
    }

module _ (axes : List Axis) (box : Box) (es : List Half) (sound : AllByRecursion Sound axes) (placed : AllByRecursion Placed box) (l : length es ≡ length axes) (c : corner_inside (box_ends axes box) es ≡ true) where
  is_corner : Corner axes box es (corner_point axes box es).numerators (pos (corner_point axes box es).denominator)
  is_corner =
      let g : ℕ = greatest (coordinates axes box es) in
      subst (Corner axes box es (all_brought g (coordinates axes box es))) (pos_pow 2 g) (corner axes box es g sound placed l c (omega arith))

  pub corner_there : AtCorner (from_ends axes box (corner_point axes box es)) es
  corner_there = is_corner.there

  pub corner_between : BetweenEnds axes box (corner_point axes box es)
  corner_between = is_corner.between

  pub corner_lies : LiesIn axes (corner_point axes box es)
  corner_lies = record { some_denominator = pow_pos (greatest (coordinates axes box es)); on_axes = is_corner.on_axes }
