-- The law of the search: what its answers say of a ticket's inequality, whatever the depth, the limit, the workspace and the calls.
use Rattle.std.specs.Prelude.{◌≡◌, ℕ, ◌+◌, ◌≤◌, List}
use Rattle.ticket.specs.WellFormed.{Content, Formed}
use Rattle.patch.specs.Point.{Point, LiesIn, TrueAt}
use Rattle.patch.specs.Box.{Coordinate, point_of}
use Rattle.patch.specs.Meaning.{Refutes}
use Rattle.chooser.specs.Choice.{Meaning, Picks}
use Rattle.search.specs.Calls.{Reply, pointed}
use Rattle.search.specs.Courses.{Course, further, answers, verdict_after, point_after, word_after, depth_after, answered, asked, Finished, Decided, ceiling}
use Rattle.search.specs.declared.word.Word.TheVariants.{Fails, Holds}
use Rattle.search.specs.declared.call.Call.{Call}

-- the reply is a point that, over the greatest of its powers of two, lies in the ticket's box, and the inequality is false there
pub record ShowsFalse (c : Content) (reply : Reply) : Type 0 where
  pub corner : List Coordinate
  pub answered : reply ≡ pointed corner
  pub refutes : Refutes c (point_of corner)

-- two courses give the same verdict, all its counts too, and the same point or none
pub record Alike (c : Content) (μ : Meaning) (r r' : Course) : Type 0 where
  pub verdicts : verdict_after c μ r ≡ verdict_after c μ r'
  pub points : point_after c μ r ≡ point_after c μ r'

-- the same polynomial, box and relation in a ticket of another depth
abbrev pub at_depth : ℕ → Content → Content
at_depth d c = record { axes = c.axes; terms = c.terms; relation = c.relation; depth = d }

-- two tickets answer a course alike, call by call and at its end
pub record SameAnswers (c c' : Content) (μ : Meaning) (r : Course) : Type 0 where
  pub replies : answers c μ r ≡ answers c' μ r
  pub verdicts : verdict_after c μ r ≡ verdict_after c' μ r
  pub points : point_after c μ r ≡ point_after c' μ r

pub record Law (c : Content) (μ : Meaning) : Type 0 where
  -- the words mean what they say
  pub holds_is_true : (r : Course) → word_after c μ r ≡ Holds → (p : Point) → LiesIn c.axes p → TrueAt c p
  pub fails_is_false : (r : Course) → word_after c μ r ≡ Fails → ShowsFalse c (point_after c μ r)
  -- a decision stays, a deeper and wider search comes to it too, and no search of the ticket, its depth aside, comes to the other one
  pub stays : (r : Course) → Decided (word_after c μ r) → (more : List Call) → Alike c μ (further r more) r
  pub agrees : (r r' : Course) → Decided (word_after c μ r) → depth_after c μ r ≤ depth_after c μ r' → r.limit ≤ r'.limit →
      Finished (word_after c μ r') → word_after c μ r' ≡ word_after c μ r
  pub never_otherwise : (r r' : Course) → Decided (word_after c μ r) → Decided (word_after c μ r') → word_after c μ r' ≡ word_after c μ r
  pub depth_aside : (d : ℕ) (r : Course) → SameAnswers (at_depth d c) c μ r
  -- the limit, the depth and the number of boxes examined are all that matters, and the limit matters only by boxes set aside for range
  pub alike : (r r' : Course) → r.limit ≡ r'.limit → depth_after c μ r ≡ depth_after c μ r' →
      (verdict_after c μ r).examined ≡ (verdict_after c μ r').examined → Alike c μ r r'
  pub alike_in_range : (r r' : Course) → depth_after c μ r ≡ depth_after c μ r' → (verdict_after c μ r).examined ≡ (verdict_after c μ r').examined →
      (verdict_after c μ r).aside_range ≡ 0 → (verdict_after c μ r').aside_range ≡ 0 → Alike c μ r r'
  -- the work is bounded, and counted
  pub few_examined : (r : Course) → (verdict_after c μ r).examined ≤ ceiling (depth_after c μ r)
  pub finishes : (r : Course) → ceiling (depth_after c μ r) ≤ asked c μ r → Finished (word_after c μ r)
  pub few_waiting : (r : Course) → (verdict_after c μ r).waiting ≤ depth_after c μ r + 1
  pub counted : (r : Course) → (verdict_after c μ r).examined ≡ answered c μ r

-- it is kept for every well-formed ticket, whoever chooses the axes
abbrev pub LawStands : Type 0
LawStands = (c : Content) (μ : Meaning) → Formed c → Picks μ → Law c μ
