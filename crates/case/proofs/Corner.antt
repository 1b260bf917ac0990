-- The point of a corner: its numbers fit a machine word, and each axis has its coordinate.
use Rattle.std.proofs.Common.{◌≡◌, ℕ, zero, suc, ◌+◌, ◌-◌, ◌*◌, ◌/◌, ◌%◌, ◌^◌, ◌<◌, ◌≤◌, List, [], ◌∷◌, ◌++◌, map, length, get_or, take, ℤ, pos, ◌+ℤ◌, ◌-ℤ◌, ◌*ℤ◌, nat_abs, sym, refl, ap, ◌∙◌, ap₂, subst, mul-le-mul, arith, w32, w64, SFits, to_z, of_z}
use borrow.Author.Differences.{ints}
use Rattle.std.specs.Int.Signed.{nat_abs-le}
use Rattle.std.proofs.lemmas.Int.{to_z-of_z}
use Rattle.std.proofs.lemmas.List.{take_all, take_more, map_push}
use Rattle.algebra.specs.declared.half.Half.{Half}
use Rattle.algebra.specs.declared.half.Half.TheVariants.{Lower}
use Rattle.number.specs.Limits.{word}
use Rattle.ticket.specs.Sizes.{rest}
use Rattle.ticket.specs.declared.records.Axis.{Axis}
use Rattle.patch.specs.Box.{Box, entire, Coordinate, coordinates}
use Rattle.patch.specs.Corners.{end_of, corner_of}
use Rattle.patch.proofs.Bounds.{nat_abs_product}
use Rattle.patch.proofs.BoxCorners.{end_here}
use Rattle.patch.proofs.Words.{fits_word, product_fits, product_is, sum_fits, sum_is}
use Rattle.search.specs.Points.{means}
use Rattle.search.specs.declared.coordinate.Coordinate.{Coordinate as Held}
use Rattle.case.specs.Corner.{end_coordinate}

-- an item of a list, past its first
at_rest : {X : Type 0} (xs : List X) (j : ℕ) (d : X) → get_or (rest xs) j d ≡ get_or xs (suc j) d
at_rest [] j d = refl
at_rest (x ∷ xs) j d = refl

-- ---- the numerator: from the lower end so many places of a number of parts
module _ (lower upper : ℤ) (parts place : ℕ) (low : SFits w32 lower) (high : SFits w32 upper) (few : parts ≤ 16777216) (within : place ≤ parts) where
  lower_small : nat_abs lower ≤ 2147483648
  lower_small = nat_abs-le lower low.sfits

  width_small : nat_abs (upper -ℤ lower) ≤ 4294967296
  width_small = omega (arith, ints, lower_small, nat_abs-le upper high.sfits)

  from_lower_small : nat_abs (lower *ℤ pos parts) ≤ 2147483648 * 16777216
  from_lower_small = omega (arith, nat_abs_product lower (pos parts), mul-le-mul lower_small few)

  places_small : nat_abs ((upper -ℤ lower) *ℤ pos place) ≤ 4294967296 * 16777216
  places_small = let l : place ≤ 16777216 = omega arith in omega (arith, nat_abs_product (upper -ℤ lower) (pos place), mul-le-mul width_small l)

  numerator_small : nat_abs (lower *ℤ pos parts +ℤ (upper -ℤ lower) *ℤ pos place) ≤ word
  numerator_small = omega (arith, ints, from_lower_small, places_small)

  module _ {a b p q : ℤ} (a-is : a ≡ lower) (b-is : b ≡ upper) (p-is : p ≡ pos parts) (q-is : q ≡ pos place) where
    width_is : to_z w64 (of_z w64 (b -ℤ a)) ≡ upper -ℤ lower
    width_is = to_z-of_z w64 (b -ℤ a) (subst (SFits w64) (λ i. sym b-is i -ℤ sym a-is i) (fits_word (upper -ℤ lower) (omega (arith, width_small)))) ∙ (λ i. b-is i -ℤ a-is i)

    from_lower_is : to_z w64 (of_z w64 (a *ℤ p)) ≡ lower *ℤ pos parts
    from_lower_is = product_is a-is p-is (omega (arith, from_lower_small))

    places_are : to_z w64 (of_z w64 (to_z w64 (of_z w64 (b -ℤ a)) *ℤ q)) ≡ (upper -ℤ lower) *ℤ pos place
    places_are = product_is width_is q-is (omega (arith, places_small))

    pub places_fit : SFits w64 (to_z w64 (of_z w64 (b -ℤ a)) *ℤ q)
    places_fit = product_fits width_is q-is (omega (arith, places_small))

    pub numerator_fits : SFits w64 (to_z w64 (of_z w64 (a *ℤ p)) +ℤ to_z w64 (of_z w64 (to_z w64 (of_z w64 (b -ℤ a)) *ℤ q)))
    numerator_fits = sum_fits from_lower_is places_are numerator_small

    pub numerator_is : to_z w64 (of_z w64 (to_z w64 (of_z w64 (a *ℤ p)) +ℤ to_z w64 (of_z w64 (to_z w64 (of_z w64 (b -ℤ a)) *ℤ q)))) ≡ lower *ℤ pos parts +ℤ (upper -ℤ lower) *ℤ pos place
    numerator_is = sum_is from_lower_is places_are numerator_small

-- ---- the coordinates, axis by axis
as_many_coordinates : (axes : List Axis) (box : Box) (es : List Half) → length (coordinates axes box es) ≡ length axes
as_many_coordinates [] box es = refl
as_many_coordinates (a ∷ axes) box es = ap suc (as_many_coordinates axes (rest box) (rest es))

coordinate_at : (axes : List Axis) (box : Box) (es : List Half) (j : ℕ) (a : Axis) (x : Coordinate) → j < length axes →
    get_or (coordinates axes box es) j x ≡ end_coordinate (get_or es j Lower) (get_or axes j a) (get_or box j entire)
coordinate_at [] box es j a x l = absurd (omega arith)
coordinate_at (b ∷ axes) box es zero a x l = refl
coordinate_at (b ∷ axes) box es (suc j) a x l =
    coordinate_at axes (rest box) (rest es) j a x (omega arith) ∙ ap₂ (λ e p. end_coordinate e (get_or axes j a) p) (at_rest es j Lower) (at_rest box j entire)

module _ (axes : List Axis) (box : Box) (n j : ℕ) where
  -- one axis more
  pub point_so_far : (a : Axis) (point : List Held) (new : Held) → j < length axes →
      map means point ≡ take j (coordinates axes box (corner_of (length axes) n)) →
      means new ≡ end_coordinate (end_of (n / 2 ^ (length axes - 1 - j) % 2)) (get_or axes j a) (get_or box j entire) →
      map means (point ++ new ∷ []) ≡ take (j + 1) (coordinates axes box (corner_of (length axes) n))
  point_so_far a point new l before here =
      let es = corner_of (length axes) n in
      let there : means new ≡ get_or (coordinates axes box es) j (means new) =
      here ∙ sym (coordinate_at axes box es j a (means new) l ∙ ap (λ e. end_coordinate e (get_or axes j a) (get_or box j entire)) (end_here (length axes) n j l)) in
      map_push means point new ∙ ap₂ (λ xs x. xs ++ x ∷ []) before there
      ∙ sym (take_more (coordinates axes box es) j (means new) (omega (arith, as_many_coordinates axes box es)))

  pub whole_point : (point : List Held) → length axes ≤ j →
      map means point ≡ take j (coordinates axes box (corner_of (length axes) n)) → map means point ≡ coordinates axes box (corner_of (length axes) n)
  whole_point point l e = e ∙ take_all j (coordinates axes box (corner_of (length axes) n)) (omega (arith, as_many_coordinates axes box (corner_of (length axes) n)))

-- a part beyond the axes has no coordinate
pub no_more_coordinates : (axes : List Axis) (box : Box) (es : List Half) → coordinates axes (take (length axes) box) es ≡ coordinates axes box es
no_more_coordinates [] box es = refl
no_more_coordinates (a ∷ axes) [] es = refl
no_more_coordinates (a ∷ axes) (x ∷ box) es = ap (λ xs. end_coordinate (get_or es 0 Lower) a x ∷ xs) (no_more_coordinates axes box (rest es))
