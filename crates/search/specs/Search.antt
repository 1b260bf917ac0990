-- The search of a ticket on pairs of whole numbers: which box is examined next, what becomes of it, and what is then known.
use Rattle.std.specs.Prelude.{ℕ, zero, suc, ◌+◌, Bool, true, false, List, [], ◌∷◌, map, length, pos, negsuc, Some, None, Option, ◌==◌, slice_index}
use Rattle.algebra.specs.Pair.{Pair, pairs}
use Rattle.algebra.specs.Form.{other}
use Rattle.algebra.specs.Layout.{flat_half}
use Rattle.algebra.specs.declared.half.Half.{Half}
use Rattle.ticket.specs.WellFormed.{Content}
use Rattle.ticket.specs.Sizes.{degrees_of}
use Rattle.ticket.specs.declared.records.Relation.TheVariants.{Greater}
use Rattle.patch.specs.Judging.{all_satisfy, all_grow, signs, broken_corner}
use Rattle.patch.specs.Point.{sum_of}
use Rattle.patch.specs.Box.{Box, whole_box, half_box, box_ends, Coordinate, coordinates}
use Rattle.patch.specs.FirstPatch.{turned, first_patch}
use Rattle.chooser.specs.Choice.{Question, Meaning}
use Rattle.search.specs.declared.word.Word.{Word}
use Rattle.search.specs.declared.word.Word.TheVariants.{Running, Fails, Holds, Open}
use Rattle.search.specs.declared.verdict.Verdict.{Verdict}

-- ---- boxes and their patches
abbrev pub halvings_of : Box → List ℕ
halvings_of box = map (λ part. part.halvings) box

-- how often a box was halved
abbrev pub level : Box → ℕ
level box = sum_of (halvings_of box)

-- a box, and the patch that the turned polynomial has on it
pub record Piece : Type 0 where
  pub box : Box
  pub patch : List Pair

unfoldable pub whole : Content → Piece
whole c = record { box = whole_box c.axes; patch = first_patch (turned c) }

-- the half along axis j
unfoldable pub half_of : Content → Half → ℕ → Piece → Piece
half_of c h j x = record { box = half_box h j x.box; patch = flat_half pairs h (degrees_of c.axes) j x.patch }

-- ---- what is asked of a box
-- all its numbers satisfy the relation
unfoldable pub is_clear : Content → Piece → Bool
is_clear c x = all_satisfy (turned c).relation x.patch

-- its corner of lowest place that lies in the box and violates the relation
unfoldable pub violation : Content → Piece → Option (List Half)
violation c x = broken_corner (turned c).relation (degrees_of c.axes) (box_ends c.axes x.box) x.patch

module _ (c : Content) (μ : Meaning) where
  -- what the chooser is told
  abbrev pub question_of : Piece → Question
  question_of x = record { degrees = degrees_of c.axes; halvings = halvings_of x.box; depth = level x.box; signs = signs x.patch }

  -- the axis that it answers, and the halves in the order in which they are examined
  abbrev pub axis_of : Piece → ℕ
  axis_of x = (μ (question_of x)).0

  abbrev pub first_half : Piece → Piece
  first_half x = half_of c (μ (question_of x)).1 (axis_of x) x

  abbrev pub second_half : Piece → Piece
  second_half x = half_of c (other (μ (question_of x)).1) (axis_of x) x

  -- every number of the patch may grow by the degree of that axis
  unfoldable pub may_halve : ℕ → Piece → Bool
  may_halve limit x = all_grow limit (slice_index (degrees_of c.axes) (axis_of x)) x.patch

-- ---- examining a box
pub data Outcome : Type 0 where
  settled : Outcome
  broken : List Half → Outcome
  too_deep : Outcome
  too_large : Outcome
  split : Piece → Piece → Outcome

-- the order of the questions: is it clear, does a corner violate the relation, is it as deep as may be, may its numbers grow
abbrev pub judged : Bool → Option (List Half) → Bool → Bool → Piece → Piece → Outcome
judged true corner deep grows first second = settled
judged false (Some corner) deep grows first second = broken corner
judged false None true grows first second = too_deep
judged false None false false first second = too_large
judged false None false true first second = split first second

abbrev pub examine : Content → ℕ → Meaning → ℕ → Piece → Outcome
examine c limit μ depth x = judged (is_clear c x) (violation c x) (level x.box == depth) (may_halve c μ limit x) (first_half c μ x) (second_half c μ x)

-- ---- the state of a search
pub record Search : Type 0 where
  pub depth : ℕ
  -- the newest first
  pub waiting : List Piece
  pub examined : ℕ
  pub aside_depth : ℕ
  pub aside_range : ℕ
  -- the point of the corner that violates the relation
  pub corner : Option (List Coordinate)

abbrev pub start : Content → ℕ → Search
start c d = record { depth = d; waiting = whole c ∷ []; examined = 0; aside_depth = 0; aside_range = 0; corner = None }

-- with one more box examined
abbrev pub counted : Search → List Piece → ℕ → ℕ → Option (List Coordinate) → Search
counted s waiting deep large corner = record { depth = s.depth; waiting = waiting; examined = s.examined + 1; aside_depth = deep; aside_range = large; corner = corner }

-- what becomes of the search when its newest box x, before the others xs, was examined: no box waits after a violation
abbrev pub after : Content → Search → Piece → List Piece → Outcome → Search
after c s x xs settled = counted s xs s.aside_depth s.aside_range s.corner
after c s x xs (broken es) = counted s [] s.aside_depth s.aside_range (Some (coordinates c.axes x.box es))
after c s x xs too_deep = counted s xs (s.aside_depth + 1) s.aside_range s.corner
after c s x xs too_large = counted s xs s.aside_depth (s.aside_range + 1) s.corner
after c s x xs (split first second) = counted s (first ∷ second ∷ xs) s.aside_depth s.aside_range s.corner

module _ (c : Content) (limit : ℕ) (μ : Meaning) where
  -- where no box waits nothing changes
  abbrev pub step_over : Search → List Piece → Search
  step_over s [] = s
  step_over s (x ∷ xs) = after c s x xs (examine c limit μ s.depth x)

  abbrev pub step : Search → Search
  step s = step_over s s.waiting

  abbrev pub steps : ℕ → Search → Search
  steps zero s = s
  steps (suc n) s = steps n (step s)

-- ---- what is known
abbrev pub word_of : List Piece → Option (List Coordinate) → ℕ → Word
word_of (x ∷ xs) corner aside = Running
word_of [] (Some corner) aside = Fails
word_of [] None zero = Holds
word_of [] None (suc aside) = Open

abbrev pub word : Search → Word
word s = word_of s.waiting s.corner (s.aside_depth + s.aside_range)

abbrev pub verdict_of : Search → Verdict
verdict_of s = record { word = word s; examined = s.examined; waiting = length s.waiting; aside_depth = s.aside_depth; aside_range = s.aside_range }

-- ---- the case that was not taken yet
-- -1 > 0 between 0 and 1, without these ends
abbrev pub untaken : Content
untaken = record {
  axes = record { degree = 1; lower = pos 0; upper = pos 1; lower_open = true; upper_open = true } ∷ [];
  terms = record { exponents = 0 ∷ 0 ∷ 0 ∷ 0 ∷ []; coefficient = negsuc 0; drift = pos 0 } ∷ [];
  relation = Greater;
  depth = 0;
}

-- it stands where one box was examined at depth 0
abbrev pub untaken_search : ℕ → Meaning → Search
untaken_search limit μ = step untaken limit μ (start untaken 0)
