-- A decided search stays as it is.
use Rattle.std.proofs.Common.{◌≡◌, ℕ, Bool, true, false, cond, not, List, [], ◌∷◌, is_some, Option, refl, ap, ◌∙◌, inl, inr}
use Rattle.ticket.specs.WellFormed.{Content}
use Rattle.chooser.specs.Choice.{Meaning}
use Rattle.search.specs.Search.{Search, start, word}
use Rattle.search.specs.Calls.{is_running, is_open, is_run, checked, next, after_calls}
use Rattle.search.specs.Courses.{Course, further, reached, Decided}
use Rattle.search.specs.declared.word.Word.{Word}
use Rattle.search.specs.declared.call.Call.{Call}
use Rattle.search.specs.declared.call.Call.TheVariants.{Run, Deepen, Verdict as verdict, Point as point}
use Rattle.search.specs.declared.call.CallRefusal.{CallRefusal}
use Rattle.search.specs.declared.call.CallRefusal.TheVariants.{RunCount, NotRunning}
use Rattle.search.proofs.Further.{after_more}

not_running : (w : Word) → Decided w → is_running w ≡ false
not_running w (inl e) = ap is_running e
not_running w (inr e) = ap is_running e

not_open : (w : Word) → Decided w → is_open w ≡ false
not_open w (inl e) = ap is_open e
not_open w (inr e) = ap is_open e

second_refuses : {A : Type 0} (first second : Bool) (why other : CallRefusal) (later : Option CallRefusal) (x y : A) → second ≡ false → cond (not (is_some (checked first why (checked second other later)))) x y ≡ y
second_refuses true second why other later x y e = rw e
second_refuses false second why other later x y e = refl

either_same : {A : Type 0} (b : Bool) (x : A) → cond b x x ≡ x
either_same true x = refl
either_same false x = refl

module _ (c : Content) (limit : ℕ) (μ : Meaning) (len : ℕ) where
  decided_next : (s : Search) → Decided (word s) → (call : Call) → next c limit μ len s call ≡ s
  decided_next s h (Run n) = second_refuses (is_run n) _ RunCount NotRunning _ _ _ (not_running (word s) h)
  decided_next s h (Deepen d) = rw (not_open (word s) h)
  decided_next s h verdict = refl
  decided_next s h point = either_same _ s

  decided_stays : (calls : List Call) (s : Search) → Decided (word s) → after_calls c limit μ len s calls ≡ s
  decided_stays [] s h = refl
  decided_stays (call ∷ calls) s h = ap (λ z. after_calls c limit μ len z calls) (decided_next s h call) ∙ decided_stays calls s h

pub decided_lasts : (c : Content) (μ : Meaning) (r : Course) → Decided (word (reached c μ r)) → (more : List Call) → reached c μ (further r more) ≡ reached c μ r
decided_lasts c μ r h more =
    after_more c r.limit μ r.workspace r.calls more (start c r.depth) ∙ decided_stays c r.limit μ r.workspace more (reached c μ r) h
