-- Searches worked out by hand, and computed by the definitions.
use Rattle.std.specs.Prelude.{◌≡◌, ℕ, ◌-◌, ◌^◌, Bool, true, false, List, [], ◌∷◌, ℤ, pos, negsuc, Some, None, Err}
use Rattle.algebra.specs.Pair.{pair}
use Rattle.number.specs.Limits.{word}
use Rattle.ticket.specs.Faults.{fault}
use Rattle.ticket.specs.Sizes.{sizing}
use Rattle.ticket.specs.WellFormed.{Content}
use Rattle.ticket.specs.declared.fault.Refusal.TheVariants.{Drift}
use Rattle.ticket.specs.declared.records.Axis.{Axis}
use Rattle.ticket.specs.declared.records.Term.{Term}
use Rattle.ticket.specs.declared.records.Relation.{Relation}
use Rattle.ticket.specs.declared.records.Relation.TheVariants.{Greater, AtLeast, Less}
use Rattle.patch.specs.Point.{Point, LiesIn, TrueAt}
use Rattle.patch.specs.Box.{whole_box, Coordinate, point_of}
use Rattle.patch.specs.Meaning.{Refutes}
use Rattle.patch.specs.Examples.{WorkedPatches}
use Rattle.chooser.specs.Alternating.{alternating}
use Rattle.chooser.specs.Choice.{Meaning}
use Rattle.chooser.specs.Examples.{WorkedChoices}
use Rattle.search.specs.Search.{Piece, start, may_halve, verdict_of, untaken, untaken_search}
use Rattle.search.specs.Calls.{ran, deepened, told, pointed, refused, refusal, take_refusal}
use Rattle.search.specs.Courses.{Course, reached, answers, verdict_after, point_after}
use Rattle.search.specs.declared.word.Word.{Word}
use Rattle.search.specs.declared.word.Word.TheVariants.{Running, Fails, Holds, Open}
use Rattle.search.specs.declared.verdict.Verdict.{Verdict}
use Rattle.search.specs.declared.call.Call.{Call}
use Rattle.search.specs.declared.call.Call.TheVariants.{Run, Deepen, Verdict as verdict, Point as point}
use Rattle.search.specs.declared.call.CallRefusal.TheVariants.{Workspace, RunCount, NotRunning, NotOpen, NotDeeper, NoPoint}

-- ---- tickets
abbrev axis : ℕ → ℤ → ℤ → Bool → Bool → Axis
axis n lower upper lower-open upper-open = record { degree = n; lower = lower; upper = upper; lower_open = lower-open; upper_open = upper-open }

abbrev term : List ℕ → ℤ → ℤ → Term
term exponents v d = record { exponents = exponents; coefficient = v; drift = d }

abbrev ticket : List Axis → List Term → Relation → Content
ticket axes terms relation = record { axes = axes; terms = terms; relation = relation; depth = 0 }

-- x^e between the exponents of the other axes
abbrev of_x : ℕ → List ℕ
of_x e = e ∷ 0 ∷ 0 ∷ 0 ∷ []

-- 4 x² - 4 x + 1 on [0, 1] touches 0 in the middle
abbrev pub touching : Relation → Content
touching = ticket (axis 2 (pos 0) (pos 1) false false ∷ []) (term (of_x 2) (pos 4) (pos 0) ∷ term (of_x 1) (negsuc 3) (pos 0) ∷ term (of_x 0) (pos 1) (pos 0) ∷ [])

-- x² - 4 on [-2, 3] crosses 0
abbrev pub crossing : Content
crossing = ticket (axis 2 (negsuc 1) (pos 3) false false ∷ []) (term (of_x 2) (pos 1) (pos 0) ∷ term (of_x 0) (negsuc 3) (pos 0) ∷ []) AtLeast

-- x on (0, 1] is positive, and comes as near to 0 as one likes
abbrev nearing : Content
nearing = ticket (axis 1 (pos 0) (pos 1) true false ∷ []) (term (of_x 1) (pos 1) (pos 0) ∷ []) Greater

-- x y on [0, 1]²
abbrev product : Relation → Content
product = ticket (axis 1 (pos 0) (pos 1) false false ∷ axis 1 (pos 0) (pos 1) false false ∷ []) (term (1 ∷ 1 ∷ 0 ∷ 0 ∷ []) (pos 1) (pos 0) ∷ [])

-- x y on (0, 1]²
abbrev quadrant : Content
quadrant = ticket (axis 1 (pos 0) (pos 1) true false ∷ axis 1 (pos 0) (pos 1) true false ∷ []) (term (1 ∷ 1 ∷ 0 ∷ 0 ∷ []) (pos 1) (pos 0) ∷ []) Greater

-- 3 - 4 x on (0, 1)
abbrev falling : Content
falling = ticket (axis 1 (pos 0) (pos 1) true true ∷ []) (term (of_x 0) (pos 3) (pos 0) ∷ term (of_x 1) (negsuc 3) (pos 0) ∷ []) Greater

-- x on [0, 1], which drifts up
abbrev drifting : Content
drifting = ticket (axis 1 (pos 0) (pos 1) false false ∷ []) (term (of_x 1) (pos 1) (pos 0) ∷ term (of_x 0) (pos 0) (pos 1) ∷ []) Greater

-- -x on [0, 1], which drifts down
abbrev sinking : Content
sinking = ticket (axis 1 (pos 0) (pos 1) false false ∷ []) (term (of_x 1) (negsuc 0) (pos 0) ∷ term (of_x 0) (pos 0) (negsuc 0) ∷ []) Less

-- a piece of degree 8 whose largest number has this size
abbrev steep : Content
steep = ticket (axis 8 (pos 0) (pos 1) false false ∷ []) [] Greater

abbrev sized : ℕ → Piece
sized n = record { box = whole_box steep.axes; patch = pair (pos n) (pos 0) ∷ pair (negsuc 0) (pos 0) ∷ [] }

-- ---- courses and answers
abbrev pub course : ℕ → List Call → Course
course d calls = record { depth = d; limit = word; workspace = 100; calls = calls }

-- the same in a workspace of so many numbers, or within another limit
abbrev course_in : ℕ → ℕ → List Call → Course
course_in len d calls = record { depth = d; limit = word; workspace = len; calls = calls }

abbrev course_within : ℕ → ℕ → List Call → Course
course_within limit d calls = record { depth = d; limit = limit; workspace = 100; calls = calls }

abbrev verdict_is : Word → ℕ → ℕ → ℕ → ℕ → Verdict
verdict_is w examined waiting deep large = record { word = w; examined = examined; waiting = waiting; aside_depth = deep; aside_range = large }

abbrev pub over_two_to : ℤ → ℕ → Coordinate
over_two_to u h = record { numerator = u; power = h }

pub record WorkedTickets : Type 0 where
  -- the first patches of the first two tickets, the halves of one and the size of the other
  pub patches : WorkedPatches
  -- choices of the axis, the evening layer's among them
  pub choices : WorkedChoices
  pub touching_open : verdict_after (touching AtLeast) alternating (course 0 (Run 9 ∷ [])) ≡ verdict_is Open 1 0 1 0
  pub touching_holds : verdict_after (touching AtLeast) alternating (course 1 (Run 9 ∷ [])) ≡ verdict_is Holds 3 0 0 0
  -- its numbers are 2, -2, 2, and to halve them wants 4 times as much
  pub touching_too_large : verdict_after (touching AtLeast) alternating (course_within 7 1 (Run 9 ∷ [])) ≡ verdict_is Open 1 0 0 1
  pub touching_just_fits : verdict_after (touching AtLeast) alternating (course_within 8 1 (Run 9 ∷ [])) ≡ verdict_is Holds 3 0 0 0
  pub crossing_fails : verdict_after crossing alternating (course 1 (Run 9 ∷ [])) ≡ verdict_is Fails 2 0 0 0
  pub crossing_point : point_after crossing alternating (course 1 (Run 9 ∷ [])) ≡ pointed (over_two_to (pos 1) 1 ∷ [])
  pub nearing_open : verdict_after nearing alternating (course 1 (Run 9 ∷ [])) ≡ verdict_is Open 3 0 1 0
  pub constant_open : verdict_after untaken alternating (course 0 (Run 9 ∷ [])) ≡ verdict_is Open 1 0 1 0
  pub constant_fails : verdict_after untaken alternating (course 1 (Run 9 ∷ [])) ≡ verdict_is Fails 2 0 0 0
  pub constant_point : point_after untaken alternating (course 1 (Run 9 ∷ [])) ≡ pointed (over_two_to (pos 1) 1 ∷ [])
  pub product_holds : verdict_after (product AtLeast) alternating (course 1 (Run 9 ∷ [])) ≡ verdict_is Holds 1 0 0 0
  pub product_fails : verdict_after (product Greater) alternating (course 1 (Run 9 ∷ [])) ≡ verdict_is Fails 1 0 0 0
  pub product_point : point_after (product Greater) alternating (course 1 (Run 9 ∷ [])) ≡ pointed (over_two_to (pos 0) 0 ∷ over_two_to (pos 0) 0 ∷ [])
  -- at depth 2 both axes were halved: one quarter has neither of the open ends
  pub quadrant_open : verdict_after quadrant alternating (course 2 (Run 9 ∷ [])) ≡ verdict_is Open 7 0 3 0
  -- the lower half is settled before the upper half is halved
  pub falling_fails : verdict_after falling alternating (course 2 (Run 9 ∷ [])) ≡ verdict_is Fails 4 0 0 0
  pub falling_point : point_after falling alternating (course 2 (Run 9 ∷ [])) ≡ pointed (over_two_to (pos 3) 2 ∷ [])
  pub drifting_holds : verdict_after drifting alternating (course 1 (Run 9 ∷ [])) ≡ verdict_is Holds 1 0 0 0
  -- turned, both parts of its numbers are negated
  pub sinking_holds : verdict_after sinking alternating (course 1 (Run 9 ∷ [])) ≡ verdict_is Holds 1 0 0 0
  -- the second term, record 2, is refused by a kind of number that does not drift
  pub drifting_refused : sizing false drifting ≡ Err (fault Drift 2 12)
  -- within 2^62 - 1 a number of size 2^54 - 1 may be doubled 8 times, one of size 2^54 not
  pub just_halved : may_halve steep alternating word (sized (2 ^ 54 - 1)) ≡ true
  pub not_halved : may_halve steep alternating word (sized (2 ^ 54)) ≡ false

-- what the law says of two of them
pub record WorkedPoints : Type 0 where
  pub touching_everywhere : (p : Point) → LiesIn (touching AtLeast).axes p → TrueAt (touching AtLeast) p
  pub crossing_somewhere : Refutes crossing (point_of (over_two_to (pos 1) 1 ∷ []))

pub record WorkedCalls : Type 0 where
  -- a search step by step
  pub session : answers (touching Greater) alternating (course 1 (verdict ∷ Run 1 ∷ point ∷ Run 5 ∷ verdict ∷ point ∷ []))
      ≡ told (verdict_is Running 0 1 0 0) ∷ ran 1 ∷ refused NoPoint ∷ ran 1 ∷ told (verdict_is Fails 2 0 0 0) ∷ pointed (over_two_to (pos 1) 1 ∷ []) ∷ []
  pub deepening : answers (touching AtLeast) alternating (course 0 (Run 9 ∷ Deepen 1 ∷ verdict ∷ Run 2 ∷ verdict ∷ Run 9 ∷ Deepen 2 ∷ []))
      ≡ ran 1 ∷ deepened 1 ∷ told (verdict_is Running 0 1 0 0) ∷ ran 2 ∷ told (verdict_is Running 2 1 0 0) ∷ ran 1 ∷ refused NotOpen ∷ []
  -- a patch of 2 numbers wants room for 8 at depth 1 and for 10 at depth 2
  pub refusals : answers nearing alternating (course_in 8 1 (Deepen 1 ∷ Run 0 ∷ Run 3 ∷ Run 1 ∷ Deepen 1 ∷ Deepen 25 ∷ Deepen 2 ∷ point ∷ []))
      ≡ refused NotOpen ∷ refused RunCount ∷ ran 3 ∷ refused NotRunning ∷ refused NotDeeper ∷ refused NotDeeper ∷ refused Workspace ∷ refused NoPoint ∷ []
  pub too_short : answers nearing alternating (course_in 7 1 (Run 0 ∷ Run 1 ∷ [])) ≡ refused RunCount ∷ refused Workspace ∷ []
  pub not_taken : take_refusal nearing 5 ≡ Some Workspace
  pub taken : take_refusal nearing 6 ≡ None
  -- no workspace at all is found last
  pub run_count_first : refusal nearing 0 (untaken_search word alternating) (Run 0) ≡ Some RunCount
  pub not_running_first : refusal nearing 0 (untaken_search word alternating) (Run 1) ≡ Some NotRunning
  pub not_open_first : refusal nearing 0 (start nearing 1) (Deepen 1) ≡ Some NotOpen
  pub not_deeper_first : refusal nearing 0 (untaken_search word alternating) (Deepen 0) ≡ Some NotDeeper
  pub longest_run : refusal nearing 8 (start nearing 1) (Run 65535) ≡ None
  pub longer_run : refusal nearing 8 (start nearing 1) (Run 65536) ≡ Some RunCount
  -- before a ticket is taken: after a run of 1, whatever the limit and the chooser
  pub untaken_run : (limit : ℕ) (μ : Meaning) → untaken_search limit μ ≡ reached untaken μ (record { depth = 0; limit = limit; workspace = 6; calls = Run 1 ∷ [] })
  pub untaken_open : (limit : ℕ) (μ : Meaning) → verdict_of (untaken_search limit μ) ≡ verdict_is Open 1 0 1 0
