-- What is read off the replies of a course is what its search holds.
use Rattle.std.proofs.Common.{◌≡◌, ℕ, zero, suc, ◌+◌, cond, not, ◌⊎◌, List, [], ◌∷◌, is_some, Some, None, Option, sym, refl, ap, ◌∙◌, subst, inl, inr, add-zero, add-suc, suc-add, add-one, arith}
use Rattle.ticket.specs.WellFormed.{Content}
use Rattle.chooser.specs.Choice.{Meaning}
use Rattle.search.specs.Search.{Piece, Search, examine, start, step_over, step, steps}
use Rattle.search.specs.Calls.{Reply, refused, refusal, reply_of, examined_by_step, examined_by, answer, done, next, after_calls, reply, replies}
use Rattle.search.specs.Courses.{Course, depth_with, sum_with, asked_with, over_replies, reached, depth_after, answered, asked}
use Rattle.search.specs.declared.call.Call.{Call}
use Rattle.search.specs.declared.call.Call.TheVariants.{Run, Deepen, Verdict as verdict, Point as point}
use Rattle.search.specs.declared.call.CallRefusal.{CallRefusal}
use Rattle.search.proofs.Keeping.{void, keep_steps}
use Rattle.search.proofs.Steps.{same_depth, one_examined}

-- a number that granted calls keep in step with the search, and refused ones leave, is in step after any calls
module _ (c : Content) (limit : ℕ) (μ : Meaning) (f : ℕ → Call → Reply → ℕ) (P : ℕ → Search → Type 0)
    (granted : (a : ℕ) (s : Search) (call : Call) → P a s → P (f a call (answer c limit μ s call)) (done c limit μ s call))
    (left : (a : ℕ) (call : Call) (why : CallRefusal) → f a call (refused why) ≡ a) where
  in_step_next : (o : Option CallRefusal) (a : ℕ) (s : Search) (call : Call) → P a s → P (f a call (reply_of o (answer c limit μ s call))) (cond (not (is_some o)) (done c limit μ s call) s)
  in_step_next None a s call h = granted a s call h
  in_step_next (Some why) a s call h = subst (λ b. P b s) (sym (left a call why)) h

  in_step : (len : ℕ) (calls : List Call) (a : ℕ) (s : Search) → P a s → P (over_replies f a calls (replies c limit μ len s calls)) (after_calls c limit μ len s calls)
  in_step len [] a s h = h
  in_step len (call ∷ calls) a s h = in_step len calls (f a call (reply c limit μ len s call)) (next c limit μ len s call) (in_step_next (refusal c len s call) a s call h)

-- as many boxes were examined as the runs asked for, or none waits any more
abbrev pub Paced : ℕ → Search → Type 0
Paced a s = (s.waiting ≡ []) ⊎ (s.examined ≡ a)

module _ (c : Content) (limit : ℕ) (μ : Meaning) where
  -- ---- the depth
  depth_granted : (d : ℕ) (s : Search) (call : Call) → s.depth ≡ d → (done c limit μ s call).depth ≡ depth_with d call (answer c limit μ s call)
  depth_granted d s (Run n) h = keep_steps c limit μ (λ t. t.depth ≡ d) (λ t x xs k o e. same_depth c t x xs o ∙ k) n s h
  depth_granted d s (Deepen e) h = refl
  depth_granted d s verdict h = h
  depth_granted d s point h = h

  -- ---- what the runs answered
  examined_over : (s : Search) (xs : List Piece) → (step_over c limit μ s xs).examined ≡ s.examined + examined_by_step xs
  examined_over s [] = omega arith
  examined_over s (x ∷ xs) = omega (arith, one_examined c s x xs (examine c limit μ s.depth x))

  -- a run examines as many boxes as it answers
  pub run_examines : (n : ℕ) (s : Search) → (steps c limit μ n s).examined ≡ s.examined + examined_by c limit μ n s
  run_examines zero s = omega arith
  run_examines (suc n) s = omega (arith, run_examines n (step c limit μ s), examined_over s s.waiting)

  sum_granted : (a : ℕ) (s : Search) (call : Call) → s.examined ≡ a → (done c limit μ s call).examined ≡ sum_with a call (answer c limit μ s call)
  sum_granted a s (Run n) h = run_examines n s ∙ ap (λ m. m + examined_by c limit μ n s) h
  sum_granted a s (Deepen d) h = refl
  sum_granted a s verdict h = h
  sum_granted a s point h = h

  -- ---- what the runs asked for
  paced_over : (a : ℕ) (s : Search) (xs : List Piece) → s.waiting ≡ xs → Paced a s → Paced (suc a) (step_over c limit μ s xs)
  paced_over a s [] e h = inl e
  paced_over a s (x ∷ xs) e (inl z) = absurd (void (cc))
  paced_over a s (x ∷ xs) e (inr z) = inr (one_examined c s x xs (examine c limit μ s.depth x) ∙ add-one s.examined ∙ ap suc z)

  paced_steps : (n a : ℕ) (s : Search) → Paced a s → Paced (a + n) (steps c limit μ n s)
  paced_steps zero a s h = rw add-zero h
  paced_steps (suc n) a s h = rw (add-suc, ← suc-add) (paced_steps n (suc a) (step c limit μ s) (paced_over a s s.waiting refl h))

  paced_granted : (a : ℕ) (s : Search) (call : Call) → Paced a s → Paced (asked_with a call (answer c limit μ s call)) (done c limit μ s call)
  paced_granted a s (Run n) h = paced_steps n a s h
  paced_granted a s (Deepen d) h = inr refl
  paced_granted a s verdict h = h
  paced_granted a s point h = h

module _ (c : Content) (μ : Meaning) (r : Course) where
  pub depth_is_told : (reached c μ r).depth ≡ depth_after c μ r
  depth_is_told =
      in_step c r.limit μ depth_with (λ d s. s.depth ≡ d) (depth_granted c r.limit μ) (λ d call why. refl) r.workspace r.calls r.depth (start c r.depth) refl

  pub examined_is_answered : (reached c μ r).examined ≡ answered c μ r
  examined_is_answered =
      in_step c r.limit μ sum_with (λ a s. s.examined ≡ a) (sum_granted c r.limit μ) (λ a call why. refl) r.workspace r.calls 0 (start c r.depth) refl

  pub examined_is_asked : Paced (asked c μ r) (reached c μ r)
  examined_is_asked =
      in_step c r.limit μ asked_with Paced (paced_granted c r.limit μ) (λ a call why. refl) r.workspace r.calls 0 (start c r.depth) (inr refl)
