-- The pieces that come of the whole box by halving along axes: their patches represent the polynomial on their boxes.
use Rattle.std.proofs.Common.{◌≡◌, ℕ, zero, suc, ◌<◌, ◌≤◌, ◌&&◌, leb, List, [], ◌∷◌, length, refl, arith}
use lib.ListN.{length-map}
use Rattle.std.specs.List.{AllByRecursion}
use Rattle.std.proofs.lemmas.Bool.{and_parts, leb-true}
use Rattle.algebra.specs.declared.half.Half.{Half}
use Rattle.ticket.specs.Numbers.{is_depth}
use Rattle.ticket.specs.WellFormed.{Content, Formed, all, axis_formed, term_formed}
use Rattle.ticket.specs.Sizes.{degrees_of}
use Rattle.ticket.specs.declared.records.Axis.{Axis}
use Rattle.patch.specs.Box.{Box, Placed, whole_box, half_box}
use Rattle.patch.specs.FirstPatch.{turned}
use Rattle.patch.specs.Meaning.{Represents}
use Rattle.patch.proofs.Box.{whole_is_placed, half_is_placed}
use Rattle.patch.proofs.FirstPatch.{first_patch_represents}
use Rattle.patch.proofs.Meaning.{half_represents}
use Rattle.chooser.specs.Choice.{Meaning, Picks}
use Rattle.search.specs.Search.{Piece, level, whole, half_of, question_of, axis_of}

-- ---- the boxes of pieces
pub whole_has_box : (c : Content) → (whole c).box ≡ whole_box c.axes
unfolding whole
whole_has_box c = refl

pub half_has_box : (c : Content) (h : Half) (j : ℕ) (x : Piece) → (half_of c h j x).box ≡ half_box h j x.box
unfolding half_of
half_has_box c h j x = refl

-- ---- their patches
pub record Faithful (c : Content) (x : Piece) : Type 0 where
  pub represents : Represents (turned c) x.box x.patch
  pub placed : AllByRecursion Placed x.box

pub whole_is_faithful : (c : Content) → Formed c → Faithful c (whole c)
unfolding whole
whole_is_faithful c formed = record { represents = first_patch_represents c formed; placed = whole_is_placed c.axes }

pub half_is_faithful : (c : Content) (h : Half) (j : ℕ) (x : Piece) → j < length c.axes → Faithful c x → Faithful c (half_of c h j x)
unfolding half_of
half_is_faithful c h j x l f = record { represents = half_represents (turned c) x.box x.patch h j l f.represents; placed = half_is_placed h j x.box f.placed }

-- ---- levels
pub whole_level : (axes : List Axis) → level (whole_box axes) ≡ 0
whole_level [] = refl
whole_level (a ∷ more) = omega (arith, whole_level more)

pub half_level : (h : Half) (j : ℕ) (box : Box) → j < length box → level (half_box h j box) ≡ suc (level box)
half_level h j [] l = absurd (omega arith)
half_level h zero (part ∷ box) l = omega arith
half_level h (suc j) (part ∷ box) l = omega (arith, half_level h j box (omega arith))

pub half_level_most : (h : Half) (j : ℕ) (box : Box) → level (half_box h j box) ≤ suc (level box)
half_level_most h j [] = omega arith
half_level_most h zero (part ∷ box) = omega arith
half_level_most h (suc j) (part ∷ box) = omega (arith, half_level_most h j box)

-- no axis was halved more often than the box
pub parts_within_level : (d : ℕ) (box : Box) → level box ≤ d → AllByRecursion (λ part. part.halvings ≤ d) box
parts_within_level d [] h = tt
parts_within_level d (part ∷ box) h = (omega arith, parts_within_level d box (omega arith))

-- ---- the axis that is chosen is one of the ticket's
some_axis : (c : Content) → Formed c → 1 ≤ length c.axes
some_axis c formed =
    let p = and_parts (leb 1 (length c.axes) && leb (length c.axes) 4) (leb (length c.terms) 128 && (all axis_formed c.axes && (all (term_formed c.axes) c.terms && is_depth c.depth))) formed in
    leb-true 1 (length c.axes) (and_parts (leb 1 (length c.axes)) (leb (length c.axes) 4) p.0).0

pub axis_is_there : (c : Content) (μ : Meaning) → Formed c → Picks μ → (x : Piece) → axis_of c μ x < length c.axes
axis_is_there c μ formed picks x =
    let e : length (degrees_of c.axes) ≡ length c.axes = length-map c.axes (λ a. a.degree) in
    omega (arith, e, picks (question_of c μ x) (omega (arith, e, some_axis c formed)))
