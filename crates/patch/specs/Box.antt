-- A box: of each axis a part, which repeated halving leaves of it.
use Rattle.std.specs.Prelude.{ℕ, suc, ◌+◌, ◌-◌, ◌*◌, ◌^◌, ◌<◌, max, not, ◌&&◌, List, [], ◌∷◌, map, ℤ, pos, ◌+ℤ◌, ◌-ℤ◌, ◌*ℤ◌, ◌==◌, slice_index_or}
use Rattle.std.specs.List.{AllByRecursion}
use Rattle.algebra.specs.Module.{pow}
use Rattle.algebra.specs.Form.{Axis as Distances, axis, Between, change}
use Rattle.algebra.specs.declared.half.Half.{Half}
use Rattle.algebra.specs.declared.half.Half.TheVariants.{Lower, Upper}
use Rattle.ticket.specs.declared.records.Axis.{Axis}
use Rattle.patch.specs.Judging.{Ends}
use Rattle.patch.specs.Point.{Point}
use Rattle.ticket.specs.Sizes.{common, rest}

-- from place / 2^halvings to (place + 1) / 2^halvings of an axis
pub record Part : Type 0 where
  pub halvings : ℕ
  pub place : ℕ

abbrev pub Box : Type 0
Box = List Part

-- there are 2^halvings parts
abbrev pub Placed : Part → Type 0
Placed x = x.place < 2 ^ x.halvings

-- ---- the whole and its halves
abbrev pub entire : Part
entire = record { halvings = 0; place = 0 }

abbrev pub whole_box : List Axis → Box
whole_box axes = map (λ _. entire) axes

abbrev pub half_place : Half → ℕ → ℕ
half_place Lower q = 2 * q
half_place Upper q = 2 * q + 1

abbrev pub half_part : Half → Part → Part
half_part h x = record { halvings = suc x.halvings; place = half_place h x.place }

-- the half of a box along axis j
abbrev pub half_box : Half → ℕ → Box → Box
half_box h j box = change j (half_part h) box

-- ---- ends
abbrev pub end_place : Half → Part → ℕ
end_place Lower x = x.place
end_place Upper x = x.place + 1

-- where a part ends, over 2^halvings
abbrev pub end_at : Half → Axis → Part → ℤ
end_at e a x = a.lower *ℤ pow (pos 2) x.halvings +ℤ (a.upper -ℤ a.lower) *ℤ pos (end_place e x)

-- where halves meet both are closed; another end of a part is the axis's own
abbrev pub ends_of : Axis → Part → Ends
ends_of a x = record {
  lower_closed = not (a.lower_open && end_place Lower x == 0);
  upper_closed = not (a.upper_open && end_place Upper x == 2 ^ x.halvings);
}

abbrev pub box_ends : List Axis → Box → List Ends
box_ends [] box = []
box_ends (a ∷ more) box = ends_of a (slice_index_or box 0 entire) ∷ box_ends more (rest box)

-- ---- a point, seen from the ends of a box: its distances from them are over 2^halvings · w
abbrev pub seen : Axis → Part → ℤ → ℤ → Distances
seen a x u w =
    axis a.degree (pow (pos 2) x.halvings *ℤ u -ℤ end_at Lower a x *ℤ w) (end_at Upper a x *ℤ w -ℤ pow (pos 2) x.halvings *ℤ u)

abbrev pub seen_all : List Axis → Box → List ℤ → ℤ → List Distances
seen_all [] box us w = []
seen_all (a ∷ more) box us w = seen a (slice_index_or box 0 entire) (slice_index_or us 0 (pos 0)) w ∷ seen_all more (rest box) (rest us) w

abbrev pub from_ends : List Axis → Box → Point → List Distances
from_ends axes box p = seen_all axes box p.numerators (pos p.denominator)

-- on each axis the point lies between the ends of its part, which differ
abbrev pub BetweenEnds : List Axis → Box → Point → Type 0
BetweenEnds axes box p = AllByRecursion Between (from_ends axes box p)

-- ---- the factor of a box
-- Π common n · 2^(n · halvings) · (upper - lower)^n
abbrev pub factor : List Axis → Box → ℤ
factor [] box = pos 1
factor (a ∷ more) box =
    pos (common a.degree) *ℤ pow (pos 2) (a.degree * (slice_index_or box 0 entire).halvings) *ℤ pow (a.upper -ℤ a.lower) a.degree *ℤ factor more (rest box)

-- ---- a corner as a point
-- a numerator over 2^power
pub record Coordinate : Type 0 where
  pub numerator : ℤ
  pub power : ℕ

abbrev pub coordinates : List Axis → Box → List Half → List Coordinate
coordinates [] box es = []
coordinates (a ∷ more) box es =
    record { numerator = end_at (slice_index_or es 0 Lower) a (slice_index_or box 0 entire); power = (slice_index_or box 0 entire).halvings } ∷ coordinates more (rest box) (rest es)

abbrev pub greatest : List Coordinate → ℕ
greatest [] = 0
greatest (x ∷ xs) = max x.power (greatest xs)

-- the coordinates over the greatest of their powers of two
abbrev pub point_of : List Coordinate → Point
point_of xs = record { numerators = map (λ x. x.numerator *ℤ pow (pos 2) (greatest xs - x.power)) xs; denominator = 2 ^ greatest xs }

abbrev pub corner_point : List Axis → Box → List Half → Point
corner_point axes box es = point_of (coordinates axes box es)
