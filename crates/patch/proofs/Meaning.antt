-- What a represented box tells: its halves are represented, a patch that satisfies the relation settles it inside, a corner that breaks it refutes it.
use Rattle.std.proofs.Common.{◌≡◌, ℕ, zero, suc, ◌<◌, Bool, true, false, cond, not, List, [], ◌∷◌, ◌++◌, map, length, get_or, pos, is_some, Some, None, Option, sym, refl, ap, ◌∙◌, subst, arith}
use lib.ListN.{length-map}
use Rattle.std.specs.List.{find, AllByRecursion}
use Rattle.std.proofs.lemmas.List.FromFn.{length-map-range_with_len}
use Rattle.std.proofs.lemmas.List.Sums.{AllPass-from_list_all}
use Rattle.std.proofs.lemmas.Bool.{and_parts, true≢false}
use Rattle.algebra.specs.Module.{pow}
use Rattle.algebra.specs.Form.{Axis as Distances, degrees, Index, toward, change, form, corner_index}
use Rattle.algebra.specs.Layout.{numbers, place_of, patch, flat_half_at, flat_half}
use Rattle.algebra.specs.Pair.{Pair, pairs, multiple, sign_of}
use Rattle.algebra.specs.declared.half.Half.{Half}
use Rattle.algebra.specs.declared.half.Half.TheVariants.{Lower, Upper}
use Rattle.algebra.proofs.Pair.{pairs_laws}
use Rattle.algebra.proofs.Signs.{multiple_keeps_sign}
use Rattle.algebra.proofs.Form.{corner_shows_sign}
use Rattle.algebra.proofs.Places.{place_below}
use Rattle.algebra.proofs.Halves.{flat_half_evaluates}
use Rattle.ticket.specs.WellFormed.{Content, Formed}
use Rattle.patch.specs.Judging.{satisfies, all_satisfy, corner_inside, corners, corner_number, breaks, broken_corner}
use Rattle.patch.specs.Point.{Point, value_at, TrueAt}
use Rattle.patch.specs.Box.{Box, Placed, half_box, box_ends, from_ends, BetweenEnds, factor, corner_point}
use Rattle.patch.specs.FirstPatch.{turned}
use Rattle.patch.specs.Meaning.{Represents, Refutes}
use Rattle.patch.proofs.Formed.{axes_sound}
use Rattle.patch.proofs.Box.{seen_degrees, seen_length, seen_half_box, half_length, factor_half, factor_positive}
use Rattle.patch.proofs.CornerPoint.{corner_there, corner_between, corner_lies}
use Rattle.patch.proofs.Turned.{form_satisfies}
use Rattle.ticket.specs.Sizes.{degrees_of}

-- ---- halves
pub half_represents : (c : Content) (box : Box) (b : List Pair) (h : Half) (j : ℕ) → j < length c.axes → Represents c box b → Represents c (half_box h j box) (flat_half pairs h (degrees_of c.axes) j b)
half_represents c box b h j l r = record {
  part_for_each = half_length h j box ∙ r.part_for_each;
  number_for_each = length-map-range_with_len (flat_half_at pairs h ns j b) 0 (numbers ns);
  same_value = same;
}
  where
    ns : List ℕ
    ns = degrees_of c.axes

    same : (p : Point) → form pairs (from_ends c.axes (half_box h j box) p) (patch pairs ns (flat_half pairs h ns j b)) ≡ multiple (factor c.axes (half_box h j box)) (value_at c p)
    same p =
        let xs : List Distances = from_ends c.axes box p in
        let k : j < length box = omega (arith, l, r.part_for_each) in
        let ms : degrees xs ≡ ns = seen_degrees c.axes box p.numerators (pos p.denominator) in
        ap (λ ys. form pairs ys (patch pairs ns (flat_half pairs h ns j b))) (seen_half_box h c.axes box j p.numerators (pos p.denominator) k)
        ∙ ap (λ ms. form pairs (change j (toward h) xs) (patch pairs ms (flat_half pairs h ms j b))) (sym ms)
        ∙ flat_half_evaluates pairs_laws h xs j b (omega (arith, l, seen_length c.axes box p.numerators (pos p.denominator)))
        ∙ ap (λ ms. multiple (pow (pos 2) (get_or ms j 0)) (form pairs xs (patch pairs ms b))) ms
        ∙ ap (multiple (pow (pos 2) (get_or ns j 0))) (r.same_value p)
        ∙ sym (pairs_laws.times_times (pow (pos 2) (get_or ns j 0)) (factor c.axes box) (value_at c p))
        ∙ ap (λ z. multiple z (value_at c p)) (sym (factor_half h c.axes box j k))

-- ---- the value has the sign of the form
module _ (c : Content) (box : Box) (b : List Pair) (formed : Formed c) (r : Represents (turned c) box b) where
  abbrev ns : List ℕ
  ns = degrees_of c.axes

  same_sign : (p : Point) → sign_of (form pairs (from_ends c.axes box p) (patch pairs ns b)) ≡ sign_of (value_at (turned c) p)
  same_sign p = ap sign_of (r.same_value p) ∙ multiple_keeps_sign (factor c.axes box) (value_at (turned c) p) (factor_positive c.axes box (axes_sound c formed))

  same_degrees : (p : Point) → degrees (from_ends c.axes box p) ≡ ns
  same_degrees p = seen_degrees c.axes box p.numerators (pos p.denominator)

  pub all_satisfied_is_true_inside : all_satisfy (turned c).relation b ≡ true → (p : Point) → BetweenEnds c.axes box p → TrueAt (turned c) p
  all_satisfied_is_true_inside all p between =
      ap (satisfies (turned c).relation) (sym (same_sign p))
      ∙ form_satisfies c.relation (from_ends c.axes box p) (patch pairs ns b) between
      (λ ks i. let k : place_of ns ks < numbers ns = place_below ns ks (subst (λ ms. Index ms ks) (same_degrees p) i) in
      AllPass-from_list_all (λ x. satisfies (turned c).relation (sign_of x)) b all (place_of ns ks) pairs.nought (omega (arith, k, r.number_for_each)))

module _ (c : Content) (box : Box) (b : List Pair) (es : List Half) (formed : Formed c) (r : Represents (turned c) box b) (placed : AllByRecursion Placed box) (l : length es ≡ length c.axes) where
  abbrev corner : Point
  corner = corner_point c.axes box es

  -- the corner's number has the sign of the value there
  corner_sign : corner_inside (box_ends c.axes box) es ≡ true → sign_of (value_at (turned c) corner) ≡ sign_of (corner_number (degrees_of c.axes) b es)
  corner_sign i =
      sym (same_sign c box b formed r corner)
      ∙ corner_shows_sign (from_ends c.axes box corner) es (patch pairs (degrees_of c.axes) b) (corner_between c.axes box es (axes_sound c formed) placed l i) (corner_there c.axes box es (axes_sound c formed) placed l i)
      ∙ ap (λ ms. sign_of (patch pairs (degrees_of c.axes) b (corner_index ms es))) (same_degrees c box b formed r corner)

  pub broken_corner_is_false : breaks (turned c).relation (degrees_of c.axes) (box_ends c.axes box) b es ≡ true → Refutes (turned c) corner
  broken_corner_is_false h =
      let p = and_parts (corner_inside (box_ends c.axes box) es) (not (satisfies (turned c).relation (sign_of (corner_number (degrees_of c.axes) b es)))) h in
      record {
        lies = corner_lies c.axes box es (axes_sound c formed) placed l p.0;
        false_there = λ t. true≢false (sym p.1 ∙ ap not (ap (satisfies (turned c).relation) (sym (corner_sign p.0)) ∙ t));
      }

-- ---- the corner that judging finds
found : {X : Type 0} (test : X → Bool) (P : X → Type 0) (xs : List X) (y : X) → AllByRecursion P xs → find test xs ≡ Some y → (test y ≡ true) × P y
found test P [] y h e = absurd (true≢false (ap is_some (sym e)))
found {X} test P (x ∷ xs) y h e = by_test (test x) refl (found test P xs y h.1) e
  where
    known : Option X → X
    known (Some z) = z
    known None = x

    by_test : (b : Bool) → test x ≡ b → (find test xs ≡ Some y → (test y ≡ true) × P y) → cond b (Some x) (find test xs) ≡ Some y → (test y ≡ true) × P y
    by_test true t later e = let s : x ≡ y = ap known e in (ap test (sym s) ∙ t, subst P s h.0)
    by_test false t later e = later e

all_both : {X : Type 0} (P : X → Type 0) (xs ys : List X) → AllByRecursion P xs → AllByRecursion P ys → AllByRecursion P (xs ++ ys)
all_both P [] ys h k = k
all_both P (x ∷ xs) ys h k = (h.0, all_both P xs ys h.1 k)

one_longer : (m : ℕ) (e : Half) (cs : List (List Half)) → AllByRecursion (λ c. length c ≡ m) cs → AllByRecursion (λ c. length c ≡ suc m) (map (λ c. e ∷ c) cs)
one_longer m e [] h = tt
one_longer m e (c ∷ cs) h = (ap suc h.0, one_longer m e cs h.1)

corners_length : (m : ℕ) → AllByRecursion (λ c. length c ≡ m) (corners m)
corners_length zero = (refl, tt)
corners_length (suc m) =
    all_both (λ c. length c ≡ suc m) (map (λ c. Lower ∷ c) (corners m)) (map (λ c. Upper ∷ c) (corners m))
    (one_longer m Lower (corners m) (corners_length m)) (one_longer m Upper (corners m) (corners_length m))

pub found_corner_is_false : (c : Content) (box : Box) (b : List Pair) (es : List Half) → Formed c → Represents (turned c) box b → AllByRecursion Placed box →
    broken_corner (turned c).relation (degrees_of c.axes) (box_ends c.axes box) b ≡ Some es → Refutes (turned c) (corner_point c.axes box es)
found_corner_is_false c box b es formed r placed e =
    let ns : List ℕ = degrees_of c.axes in
    let f = found (breaks (turned c).relation ns (box_ends c.axes box) b) (λ c. length c ≡ length ns) (corners (length ns)) es (corners_length (length ns)) e in
    broken_corner_is_false c box b es formed r placed (f.1 ∙ length-map c.axes (λ a. a.degree)) f.0
