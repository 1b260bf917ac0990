-- What more calls answer and leave, after the first ones.
use Rattle.std.proofs.Common.{◌≡◌, ℕ, List, [], ◌∷◌, ◌++◌, refl, ap}
use Rattle.ticket.specs.WellFormed.{Content}
use Rattle.chooser.specs.Choice.{Meaning}
use Rattle.search.specs.Search.{Search, start}
use Rattle.search.specs.Calls.{reply, next, after_calls, replies}
use Rattle.search.specs.Courses.{Course, further, reached, answers}
use Rattle.search.specs.declared.call.Call.{Call}

module _ (c : Content) (limit : ℕ) (μ : Meaning) (len : ℕ) where
  pub after_more : (calls more : List Call) (s : Search) → after_calls c limit μ len s (calls ++ more) ≡ after_calls c limit μ len (after_calls c limit μ len s calls) more
  after_more [] more s = refl
  after_more (call ∷ calls) more s = after_more calls more (next c limit μ len s call)

  pub replies_more : (calls more : List Call) (s : Search) → replies c limit μ len s (calls ++ more) ≡ replies c limit μ len s calls ++ replies c limit μ len (after_calls c limit μ len s calls) more
  replies_more [] more s = refl
  replies_more (call ∷ calls) more s = ap (λ rs. reply c limit μ len s call ∷ rs) (replies_more calls more (next c limit μ len s call))

-- one more call of a course
module _ (c : Content) (μ : Meaning) (r : Course) (call : Call) where
  pub reached_next : reached c μ (further r (call ∷ [])) ≡ next c r.limit μ r.workspace (reached c μ r) call
  reached_next = after_more c r.limit μ r.workspace r.calls (call ∷ []) (start c r.depth)

  pub answers_next : answers c μ (further r (call ∷ [])) ≡ answers c μ r ++ (reply c r.limit μ r.workspace (reached c μ r) call ∷ [])
  answers_next = replies_more c r.limit μ r.workspace r.calls (call ∷ []) (start c r.depth)
