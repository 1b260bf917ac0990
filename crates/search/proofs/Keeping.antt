-- What holds of every start and is kept by examining a box holds after any calls.
use Rattle.std.proofs.Common.{◌≡◌, ℕ, zero, suc, Bool, true, false, cond, List, [], ◌∷◌, refl, arith}
use Rattle.ticket.specs.WellFormed.{Content}
use Rattle.chooser.specs.Choice.{Meaning}
use Rattle.search.specs.Search.{Piece, Search, Outcome, examine, start, after, step_over, step, steps}
use Rattle.search.specs.Calls.{is_granted, done, next, after_calls}
use Rattle.search.specs.Courses.{Course, reached}
use Rattle.search.specs.declared.call.Call.{Call}
use Rattle.search.specs.declared.call.Call.TheVariants.{Run, Deepen, Verdict as verdict, Point as point}

-- what `cc` proves of constructors that differ
pub void : ◌≡◌ {A = ℕ} 0 1 → ⊥
void e = omega arith

-- the search with these pieces waiting: its fields compute
abbrev pub over : Search → List Piece → Search
over s xs = record { depth = s.depth; waiting = xs; examined = s.examined; aside_depth = s.aside_depth; aside_range = s.aside_range; corner = s.corner }

-- examining a box keeps P, whatever comes of it
abbrev pub Keeps : Content → ℕ → Meaning → (Search → Type 0) → Type 0
Keeps c limit μ P = (s : Search) (x : Piece) (xs : List Piece) → P (over s (x ∷ xs)) → (o : Outcome) → examine c limit μ s.depth x ≡ o → P (after c s x xs o)

module _ (c : Content) (limit : ℕ) (μ : Meaning) (P : Search → Type 0) (examining : Keeps c limit μ P) where
  keep_over : (s : Search) (xs : List Piece) → P (over s xs) → P s → P (step_over c limit μ s xs)
  keep_over s [] h k = k
  keep_over s (x ∷ xs) h k = examining s x xs h (examine c limit μ s.depth x) refl

  pub keep_step : (s : Search) → P s → P (step c limit μ s)
  keep_step s h = keep_over s s.waiting h h

  pub keep_steps : (n : ℕ) (s : Search) → P s → P (steps c limit μ n s)
  keep_steps zero s h = h
  keep_steps (suc n) s h = keep_steps n (step c limit μ s) (keep_step s h)

  module _ (starting : (d : ℕ) → P (start c d)) where
    keep_done : (s : Search) (call : Call) → P s → P (done c limit μ s call)
    keep_done s (Run n) h = keep_steps n s h
    keep_done s (Deepen d) h = starting d
    keep_done s verdict h = h
    keep_done s point h = h

    keep_next : (granted : Bool) (s : Search) (call : Call) → P s → P (cond granted (done c limit μ s call) s)
    keep_next true s call h = keep_done s call h
    keep_next false s call h = h

    pub keep_calls : (len : ℕ) (calls : List Call) (s : Search) → P s → P (after_calls c limit μ len s calls)
    keep_calls len [] s h = h
    keep_calls len (call ∷ calls) s h = keep_calls len calls (next c limit μ len s call) (keep_next (is_granted c len s call) s call h)

module _ (c : Content) (μ : Meaning) (P : Search → Type 0) where
  pub keep : (r : Course) → Keeps c r.limit μ P → ((d : ℕ) → P (start c d)) → P (reached c μ r)
  keep r examining starting = keep_calls c r.limit μ P examining starting r.workspace r.calls (start c r.depth) (starting r.depth)
