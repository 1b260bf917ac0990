-- Courses of a ticket: it is taken, and calls are made. What they answer, and what can be read off the answers.
use Rattle.std.specs.Prelude.{◌≡◌, ℕ, ◌+◌, ◌-◌, ◌^◌, ◌⊎◌, List, [], ◌∷◌, ◌++◌}
use Rattle.ticket.specs.WellFormed.{Content}
use Rattle.chooser.specs.Choice.{Meaning}
use Rattle.search.specs.Search.{Search, start, verdict_of}
use Rattle.search.specs.Calls.{Reply, ran, deepened, told, pointed, refused, reply, after_calls, replies}
use Rattle.search.specs.declared.word.Word.{Word}
use Rattle.search.specs.declared.word.Word.TheVariants.{Running, Fails, Holds}
use Rattle.search.specs.declared.verdict.Verdict.{Verdict}
use Rattle.search.specs.declared.call.Call.{Call}
use Rattle.search.specs.declared.call.Call.TheVariants.{Run, Deepen, Verdict as verdict, Point as point}

-- the depth at which the ticket is taken, the limit of the numbers, how many of them the workspace holds, and the calls
pub record Course : Type 0 where
  pub depth : ℕ
  pub limit : ℕ
  pub workspace : ℕ
  pub calls : List Call

-- a ticket is taken at its own depth
abbrev pub taken_at_its_depth : Content → ℕ → ℕ → List Call → Course
taken_at_its_depth c limit len calls = record { depth = c.depth; limit = limit; workspace = len; calls = calls }

-- the same course with more calls after it
abbrev pub further : Course → List Call → Course
further r more = record { depth = r.depth; limit = r.limit; workspace = r.workspace; calls = r.calls ++ more }

-- ---- what is read off the replies, one after another
-- the depth is that of the last deepening that was not refused
abbrev pub depth_with : ℕ → Call → Reply → ℕ
depth_with d call (ran n) = d
depth_with d call (deepened e) = e
depth_with d call (told v) = d
depth_with d call (pointed xs) = d
depth_with d call (refused why) = d

-- the sum of what the runs answered since then
abbrev pub sum_with : ℕ → Call → Reply → ℕ
sum_with a call (ran n) = a + n
sum_with a call (deepened e) = 0
sum_with a call (told v) = a
sum_with a call (pointed xs) = a
sum_with a call (refused why) = a

-- the sum of what the runs that were not refused asked for since then
abbrev pub run_size : Call → ℕ
run_size (Run n) = n
run_size (Deepen d) = 0
run_size verdict = 0
run_size point = 0

abbrev pub asked_with : ℕ → Call → Reply → ℕ
asked_with a call (ran n) = a + run_size call
asked_with a call (deepened e) = 0
asked_with a call (told v) = a
asked_with a call (pointed xs) = a
asked_with a call (refused why) = a

abbrev pub over_replies : (ℕ → Call → Reply → ℕ) → ℕ → List Call → List Reply → ℕ
over_replies f a [] rs = a
over_replies f a (call ∷ calls) [] = a
over_replies f a (call ∷ calls) (r ∷ rs) = over_replies f (f a call r) calls rs

-- ---- what a course answers
module _ (c : Content) (μ : Meaning) where
  abbrev pub reached : Course → Search
  reached r = after_calls c r.limit μ r.workspace (start c r.depth) r.calls

  abbrev pub answers : Course → List Reply
  answers r = replies c r.limit μ r.workspace (start c r.depth) r.calls

  -- the verdict and the point, asked for at its end
  abbrev pub verdict_after : Course → Verdict
  verdict_after r = verdict_of (reached r)

  abbrev pub point_after : Course → Reply
  point_after r = reply c r.limit μ r.workspace (reached r) point

  abbrev pub word_after : Course → Word
  word_after r = (verdict_after r).word

  -- the depth that it came to, and what its runs answered and asked for at that depth
  abbrev pub depth_after : Course → ℕ
  depth_after r = over_replies depth_with r.depth r.calls (answers r)

  abbrev pub answered : Course → ℕ
  answered r = over_replies sum_with 0 r.calls (answers r)

  abbrev pub asked : Course → ℕ
  asked r = over_replies asked_with 0 r.calls (answers r)

-- ---- words
abbrev pub Finished : Word → Type 0
Finished w = w ≡ Running → ⊥

abbrev pub Decided : Word → Type 0
Decided w = (w ≡ Holds) ⊎ (w ≡ Fails)

-- a box and all that it can be halved into at a depth
abbrev pub ceiling : ℕ → ℕ
ceiling d = 2 ^ (d + 1) - 1
