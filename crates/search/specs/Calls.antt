-- The calls on a search: what each answers, what it leaves, and when it is refused.
use Rattle.std.specs.Prelude.{ℕ, zero, suc, ◌+◌, ◌*◌, Bool, true, false, cond, not, ◌&&◌, List, [], ◌∷◌, is_some, Some, None, Option, nat_le, nat_lt}
use Rattle.std.specs.Option.{unwrap_or}
use Rattle.ticket.specs.Numbers.{is_depth}
use Rattle.ticket.specs.WellFormed.{Content}
use Rattle.ticket.specs.Sizes.{patch_count}
use Rattle.patch.specs.Box.{Coordinate}
use Rattle.chooser.specs.Choice.{Meaning}
use Rattle.search.specs.Search.{Piece, Search, start, step, steps, word, verdict_of}
use Rattle.search.specs.declared.word.Word.{Word}
use Rattle.search.specs.declared.word.Word.TheVariants.{Running, Fails, Holds, Open}
use Rattle.search.specs.declared.verdict.Verdict.{Verdict}
use Rattle.search.specs.declared.call.Call.{Call}
use Rattle.search.specs.declared.call.Call.TheVariants.{Run, Deepen, Verdict as verdict, Point as point}
use Rattle.search.specs.declared.call.CallRefusal.{CallRefusal}
use Rattle.search.specs.declared.call.CallRefusal.TheVariants.{Workspace, RunCount, NotRunning, NotOpen, NotDeeper, NoPoint}

-- the numbers of the refusals
abbrev pub refusal_number : CallRefusal → ℕ
refusal_number Workspace = 12
refusal_number RunCount = 13
refusal_number NotRunning = 14
refusal_number NotOpen = 15
refusal_number NotDeeper = 16
refusal_number NoPoint = 17

-- how many boxes a run examined, the depth of a deepening, the verdict, the point, or the refusal
pub data Reply : Type 0 where
  ran : ℕ → Reply
  deepened : ℕ → Reply
  told : Verdict → Reply
  pointed : List Coordinate → Reply
  refused : CallRefusal → Reply

-- ---- refusals
abbrev pub is_running : Word → Bool
is_running Running = true
is_running Fails = false
is_running Holds = false
is_running Open = false

abbrev pub is_open : Word → Bool
is_open Running = false
is_open Fails = false
is_open Holds = false
is_open Open = true

abbrev pub is_failing : Word → Bool
is_failing Running = false
is_failing Fails = true
is_failing Holds = false
is_failing Open = false

-- how many boxes a run may ask for
abbrev pub is_run : ℕ → Bool
is_run n = nat_le 1 n && nat_le n 65535

-- a workspace of so many numbers has room for a search at depth d: take, run and deepen measure it
unfoldable pub has_room : Content → ℕ → ℕ → Bool
has_room c len d = nat_le ((d + 3) * patch_count c.axes) len

-- a refusal, unless the test is passed
abbrev pub checked : Bool → CallRefusal → Option CallRefusal → Option CallRefusal
checked true why later = later
checked false why later = Some why

-- a ticket is taken at its depth, unless the workspace is too short
abbrev pub take_refusal : Content → ℕ → Option CallRefusal
take_refusal c len = checked (has_room c len c.depth) Workspace None

-- the first refusal that applies to a call
abbrev pub refusal : Content → ℕ → Search → Call → Option CallRefusal
refusal c len s (Run n) = checked (is_run n) RunCount (checked (is_running (word s)) NotRunning (checked (has_room c len s.depth) Workspace None))
refusal c len s (Deepen d) = checked (is_open (word s)) NotOpen (checked (nat_lt s.depth d && is_depth d) NotDeeper (checked (has_room c len d) Workspace None))
refusal c len s verdict = None
refusal c len s point = checked (is_failing (word s)) NoPoint None

abbrev pub is_granted : Content → ℕ → Search → Call → Bool
is_granted c len s call = not (is_some (refusal c len s call))

-- ---- calls that are granted
abbrev pub examined_by_step : List Piece → ℕ
examined_by_step [] = 0
examined_by_step (x ∷ xs) = 1

module _ (c : Content) (limit : ℕ) (μ : Meaning) where
  -- how many boxes a run of n examines
  abbrev pub examined_by : ℕ → Search → ℕ
  examined_by zero s = 0
  examined_by (suc n) s = examined_by_step s.waiting + examined_by n (step c limit μ s)

  abbrev pub answer : Search → Call → Reply
  answer s (Run n) = ran (examined_by n s)
  answer s (Deepen d) = deepened d
  answer s verdict = told (verdict_of s)
  answer s point = pointed (unwrap_or s.corner [])

  abbrev pub done : Search → Call → Search
  done s (Run n) = steps c limit μ n s
  done s (Deepen d) = start c d
  done s verdict = s
  done s point = s

-- ---- calls
abbrev pub reply_of : Option CallRefusal → Reply → Reply
reply_of None granted = granted
reply_of (Some why) granted = refused why

module _ (c : Content) (limit : ℕ) (μ : Meaning) (len : ℕ) where
  abbrev pub reply : Search → Call → Reply
  reply s call = reply_of (refusal c len s call) (answer c limit μ s call)

  -- a refused call changes nothing
  abbrev pub next : Search → Call → Search
  next s call = cond (is_granted c len s call) (done c limit μ s call) s

  abbrev pub after_calls : Search → List Call → Search
  after_calls s [] = s
  after_calls s (call ∷ calls) = after_calls (next s call) calls

  abbrev pub replies : Search → List Call → List Reply
  replies s [] = []
  replies s (call ∷ calls) = reply s call ∷ replies (next s call) calls
