-- What a patch says of the polynomial: the laws that every verdict rests on. They speak of the values at points alone; a coefficient that is
-- not a corner's is no value of the polynomial.
use Rattle.std.specs.Prelude.{◌≡◌, ℕ, ◌<◌, ◌≤◌, true, ◌⊎◌, ◌↔◌, List, length, pos, ◌<ℤ◌, Some}
use Rattle.std.specs.List.{AllByRecursion}
use Rattle.algebra.specs.Form.{form}
use Rattle.algebra.specs.Layout.{numbers, patch, flat_half}
use Rattle.algebra.specs.Pair.{Pair, pairs, multiple}
use Rattle.algebra.specs.declared.half.Half.{Half}
use Rattle.algebra.specs.declared.half.Half.TheVariants.{Lower, Upper}
use Rattle.ticket.specs.WellFormed.{Content, Formed}
use Rattle.ticket.specs.declared.records.Axis.{Axis}
use Rattle.patch.specs.Judging.{all_satisfy, breaks, broken_corner}
use Rattle.patch.specs.Point.{Point, enlarged, LiesIn, value_at, TrueAt}
use Rattle.patch.specs.Box.{Box, Placed, whole_box, half_box, box_ends, from_ends, BetweenEnds, factor, corner_point}
use Rattle.patch.specs.FirstPatch.{turned, first_patch}
use Rattle.ticket.specs.Sizes.{degrees_of}

-- The numbers stand for the polynomial on a box: at every point their Bernstein form, from the ends of the box, is the factor of the box
-- times the polynomial's own value there, which `value_at` gives times w^N.
pub record Represents (c : Content) (box : Box) (b : List Pair) : Type 0 where
  pub part_for_each : length box ≡ length c.axes
  pub number_for_each : length b ≡ numbers (degrees_of c.axes)
  pub same_value : (p : Point) → form pairs (from_ends c.axes box p) (patch pairs (degrees_of c.axes) b) ≡ multiple (factor c.axes box) (value_at c p)

-- ---- which boxes are represented
abbrev pub FirstPatchRepresents : Type 0
FirstPatchRepresents = (c : Content) → Formed c → Represents (turned c) (whole_box c.axes) (first_patch (turned c))

abbrev pub HalfRepresents : Type 0
HalfRepresents = (c : Content) (box : Box) (b : List Pair) (h : Half) (j : ℕ) → j < length c.axes →
    Represents c box b → Represents c (half_box h j box) (flat_half pairs h (degrees_of c.axes) j b)

-- the factor of a ticket's box is positive: the form has the sign of the value
abbrev pub FactorIsPositive : Type 0
FactorIsPositive = (c : Content) (box : Box) → Formed c → pos 0 <ℤ factor c.axes box

-- ---- what a represented box tells
abbrev pub AllSatisfiedIsTrueInside : Type 0
AllSatisfiedIsTrueInside = (c : Content) (box : Box) (b : List Pair) → Formed c → Represents (turned c) box b →
    all_satisfy (turned c).relation b ≡ true → (p : Point) → BetweenEnds c.axes box p → TrueAt (turned c) p

-- the point lies in the ticket's box, and the inequality is false there
pub record Refutes (c : Content) (p : Point) : Type 0 where
  pub lies : LiesIn c.axes p
  pub false_there : ¬ TrueAt c p

-- a corner, which takes an end of each axis, refutes the inequality where it lies in the box and breaks the relation
abbrev pub BrokenCornerIsFalse : Type 0
BrokenCornerIsFalse = (c : Content) (box : Box) (b : List Pair) (es : List Half) → Formed c → Represents (turned c) box b → AllByRecursion Placed box → length es ≡ length c.axes →
    breaks (turned c).relation (degrees_of c.axes) (box_ends c.axes box) b es ≡ true → Refutes (turned c) (corner_point c.axes box es)

-- so does the corner that judging finds
abbrev pub FoundCornerIsFalse : Type 0
FoundCornerIsFalse = (c : Content) (box : Box) (b : List Pair) (es : List Half) → Formed c → Represents (turned c) box b → AllByRecursion Placed box →
    broken_corner (turned c).relation (degrees_of c.axes) (box_ends c.axes box) b ≡ Some es → Refutes (turned c) (corner_point c.axes box es)

-- ---- the inequality itself
-- turned, it is true at the same points
abbrev pub TurnedIsSame : Type 0
TurnedIsSame = (c : Content) (p : Point) → TrueAt (turned c) p ↔ TrueAt c p

-- whether it is true at a point does not depend on the fractions by which the point is given
abbrev pub FractionsAgree : Type 0
FractionsAgree = (c : Content) (p : Point) (k : ℕ) → Formed c → 1 ≤ k → TrueAt c (enlarged k p) ↔ TrueAt c p

-- ---- no point is lost
abbrev pub WholeCovers : Type 0
WholeCovers = (c : Content) (p : Point) → Formed c → LiesIn c.axes p → BetweenEnds c.axes (whole_box c.axes) p

abbrev pub HalvesCover : Type 0
HalvesCover = (axes : List Axis) (box : Box) (j : ℕ) (p : Point) → BetweenEnds axes box p → BetweenEnds axes (half_box Lower j box) p ⊎ BetweenEnds axes (half_box Upper j box) p

-- every part has a place that there is
abbrev pub WholeIsPlaced : Type 0
WholeIsPlaced = (axes : List Axis) → AllByRecursion Placed (whole_box axes)

abbrev pub HalfIsPlaced : Type 0
HalfIsPlaced = (h : Half) (j : ℕ) (box : Box) → AllByRecursion Placed box → AllByRecursion Placed (half_box h j box)
