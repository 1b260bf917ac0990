-- Patches, a size, ends and a corner worked out by hand, and computed by the definitions.
use Rattle.std.specs.Prelude.{◌≡◌, ℕ, Bool, true, false, List, [], ◌∷◌, map, ℤ, pos, negsuc}
use Rattle.algebra.specs.Layout.{flat_half}
use Rattle.algebra.specs.Pair.{Pair, pair, pairs}
use Rattle.algebra.specs.declared.half.Half.{Half}
use Rattle.algebra.specs.declared.half.Half.TheVariants.{Lower, Upper}
use Rattle.ticket.specs.Sizes.{value_size}
use Rattle.ticket.specs.WellFormed.{Content}
use Rattle.ticket.specs.declared.records.Relation.TheVariants.{AtLeast}
use Rattle.patch.specs.Judging.{Ends}
use Rattle.patch.specs.Point.{Point}
use Rattle.patch.specs.Box.{Box, whole_box, half_box, box_ends, corner_point}
use Rattle.patch.specs.FirstPatch.{turned, first_patch}

-- a x² + b x + c between two ends, both open or both closed
abbrev quadratic : ℤ → ℤ → ℤ → ℤ → ℤ → Bool → Content
quadratic a b c lower upper are_open = record {
  axes = record { degree = 2; lower = lower; upper = upper; lower_open = are_open; upper_open = are_open } ∷ [];
  terms = record { exponents = 2 ∷ 0 ∷ 0 ∷ 0 ∷ []; coefficient = a; drift = pos 0 }
      ∷ record { exponents = 1 ∷ 0 ∷ 0 ∷ 0 ∷ []; coefficient = b; drift = pos 0 }
      ∷ record { exponents = 0 ∷ 0 ∷ 0 ∷ 0 ∷ []; coefficient = c; drift = pos 0 } ∷ [];
  relation = AtLeast;
  depth = 1;
}

abbrev steady : List ℤ → List Pair
steady vs = map (λ v. pair v (pos 0)) vs

-- 4 x² - 4 x + 1 from 0 to 1 touches 0 in the middle; x² - 4 from -2 to 3, without these ends, crosses 0
abbrev touching : Content
touching = quadratic (pos 4) (negsuc 3) (pos 1) (pos 0) (pos 1) false

abbrev crossing : Content
crossing = quadratic (pos 1) (pos 0) (negsuc 3) (negsuc 1) (pos 3) true

abbrev half_crossing : Half → Box
half_crossing h = half_box h 0 (whole_box crossing.axes)

abbrev ends : Bool → Bool → Ends
ends lower upper = record { lower_closed = lower; upper_closed = upper }

abbrev fraction : ℤ → ℕ → Point
fraction u w = record { numerators = u ∷ []; denominator = w }

pub record WorkedPatches : Type 0 where
  pub first_touching : first_patch (turned touching) ≡ steady (pos 2 ∷ negsuc 1 ∷ pos 2 ∷ [])
  pub lower_half : flat_half pairs Lower (2 ∷ []) 0 (first_patch (turned touching)) ≡ steady (pos 8 ∷ pos 0 ∷ pos 0 ∷ [])
  pub upper_half : flat_half pairs Upper (2 ∷ []) 0 (first_patch (turned touching)) ≡ steady (pos 0 ∷ pos 0 ∷ pos 8 ∷ [])
  pub first_crossing : first_patch (turned crossing) ≡ steady (pos 0 ∷ negsuc 19 ∷ pos 10 ∷ [])
  -- the middle belongs to both halves, the open ends to none; it is 1 / 2
  pub lower_ends : box_ends crossing.axes (half_crossing Lower) ≡ ends false true ∷ []
  pub upper_ends : box_ends crossing.axes (half_crossing Upper) ≡ ends true false ∷ []
  pub middle : corner_point crossing.axes (half_crossing Upper) (Lower ∷ []) ≡ fraction (pos 1) 2

-- and a size
pub record WorkedSize : Type 0 where
  pub size_of_crossing : value_size crossing.axes crossing.terms ≡ 106
