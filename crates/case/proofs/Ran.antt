-- Runs of a case, and why they are refused.
use Rattle.std.proofs.Common.{◌≡◌, ℕ, suc, ◌+◌, ◌-◌, ◌*◌, ◌<◌, ◌≤◌, Bool, true, false, cond, not, leb, List, [], ◌∷◌, length, is_some, Some, None, sym, refl, ap, ◌∙◌, arith}
use Rattle.std.proofs.lemmas.Bool.{leb-true}
use Rattle.algebra.specs.Pair.{Pair}
use Rattle.number.specs.declared.number.Number.{Ghosts}
use Rattle.ticket.specs.Sizes.{patch_count}
use Rattle.ticket.specs.WellFormed.{Content}
use Rattle.chooser.specs.Choice.{Meaning}
use Rattle.search.specs.Search.{Search, examine, step_over, step, steps, word_of, word}
use Rattle.search.specs.Calls.{ran, is_running, is_run, has_room, checked, refusal, examined_by, reply_of, reply, next}
use Rattle.search.specs.declared.word.Word.TheVariants.{Running}
use Rattle.search.specs.declared.call.Call.TheVariants.{Run}
use Rattle.search.specs.declared.call.CallRefusal.TheVariants.{Workspace, RunCount, NotRunning}
use Rattle.search.proofs.Bounds.{steps_same_depth}
use Rattle.search.proofs.Keeping.{void}
use Rattle.search.proofs.Replies.{run_examines}
use Rattle.search.proofs.Steps.{one_examined}
use Rattle.case.specs.Model.{ticket_of, piece_in, pieces, model}
use Rattle.case.specs.declared.record.Record.{Record}
use Rattle.case.specs.declared.case.Case.{Case}
use Rattle.case.proofs.Standing.{axes}

-- ---- room
pub room_by_size : (c : Content) (len d size : ℕ) → size ≡ patch_count c.axes → leb ((d + 3) * size) len ≡ has_room c len d
unfolding has_room
room_by_size c len d size e = ap (λ n. leb ((d + 3) * n) len) e

pub room_is_there : (c : Content) (len d : ℕ) → has_room c len d ≡ true → (d + 3) * patch_count c.axes ≤ len
unfolding has_room
room_is_there c len d e = leb-true ((d + 3) * patch_count c.axes) len e

-- ---- boxes that wait
module _ {K : Type 0} {N : Ghosts K} (k : Case K N) (work : List Pair) where
  pub none_waits : length k.waiting ≡ 0 → (model k work).waiting ≡ []
  none_waits e = ap (λ n. pieces (axes k) k.size n work) (no_record k.waiting (omega arith))
    where
      no_record : (rs : List Record) → length rs ≤ 0 → rs ≡ []
      no_record [] l = refl
      no_record (r ∷ rs) l = absurd (omega arith)

  pub word_while_waiting : 0 < length k.waiting → Running ≡ word (model k work)
  word_while_waiting l = by_record k.waiting l
    where
      by_record : (rs : List Record) → 0 < length rs → Running ≡ word_of (pieces (axes k) k.size rs work) (model k work).corner (k.aside_depth + k.aside_range)
      by_record [] l = absurd (omega arith)
      by_record (r ∷ rs) l = refl

  running : 0 < length k.waiting → is_running (word (model k work)) ≡ true
  running l = ap is_running (sym (word_while_waiting l))

  -- ---- refusals of a run
  module _ (len n : ℕ) where
    by_room : is_run n ≡ true → is_running (word (model k work)) ≡ true → (r : Bool) → has_room (ticket_of k) len k.depth ≡ r → refusal (ticket_of k) len (model k work) (Run n) ≡ checked r Workspace None
    by_room p q r s = rw (p, q, s)

    module _ (counted : is_run n ≡ true) where
      pub refused_room : 0 < length k.waiting → has_room (ticket_of k) len k.depth ≡ false → Some Workspace ≡ refusal (ticket_of k) len (model k work) (Run n)
      refused_room l e = sym (by_room counted (running l) false e)

      pub not_refused : 0 < length k.waiting → has_room (ticket_of k) len k.depth ≡ true → None ≡ refusal (ticket_of k) len (model k work) (Run n)
      not_refused l e = sym (by_room counted (running l) true e)

-- ---- counting
module _ (c : Content) (limit : ℕ) (μ : Meaning) where
  pub one_step_more : (n done : ℕ) (s t : Search) → done < n → t ≡ step c limit μ s → steps c limit μ (n - (done + 1)) t ≡ steps c limit μ (n - done) s
  one_step_more n done s t l e =
      let q : n - done ≡ suc (n - (done + 1)) = omega arith in
      ap (steps c limit μ (n - (done + 1))) e ∙ sym (ap (λ m. steps c limit μ m s) q)

  pub as_many_examined : (n done : ℕ) (s t : Search) → t ≡ steps c limit μ n s → t.examined ≡ s.examined + done → done ≡ examined_by c limit μ n s
  as_many_examined n done s t e h = omega (arith, ap (λ x. x.examined) e, run_examines c limit μ n s)

  pub step_keeps_depth : (s t : Search) → t ≡ step c limit μ s → t.depth ≡ s.depth
  step_keeps_depth s t e = ap (λ x. x.depth) e ∙ steps_same_depth c limit μ 1 s

  pub step_counts : {K : Type 0} {N : Ghosts K} (k : Case K N) (work : List Pair) → 0 < length k.waiting → (step c limit μ (model k work)).examined ≡ k.examined + 1
  step_counts k work l = by_record k.waiting l
    where
      by_record : (rs : List Record) → 0 < length rs → (step_over c limit μ (model k work) (pieces (axes k) k.size rs work)).examined ≡ k.examined + 1
      by_record [] l = absurd (omega arith)
      by_record (r ∷ rs) l = one_examined c (model k work) (piece_in (axes k) k.size r (length rs) work) (pieces (axes k) k.size rs work) (examine c limit μ k.depth (piece_in (axes k) k.size r (length rs) work))

  -- ---- what a run answers, and what it leaves
  module _ (len n : ℕ) (s : Search) where
    pub granted_reply : (count : ℕ) → None ≡ refusal c len s (Run n) → count ≡ examined_by c limit μ n s → ran count ≡ reply c limit μ len s (Run n)
    granted_reply count e h = ap ran h ∙ ap (λ o. reply_of o (ran (examined_by c limit μ n s))) e

    pub granted_next : (t : Search) → None ≡ refusal c len s (Run n) → t ≡ steps c limit μ n s → t ≡ next c limit μ len s (Run n)
    granted_next t e h = h ∙ ap (λ o. cond (not (is_some o)) (steps c limit μ n s) s) e

    -- a run that is not refused has room
    pub granted_room : None ≡ refusal c len s (Run n) → has_room c len s.depth ≡ true
    granted_room e = by_tests (is_run n) (is_running (word s)) (has_room c len s.depth) e
      where
        by_tests : (a b r : Bool) → None ≡ checked a RunCount (checked b NotRunning (checked r Workspace None)) → r ≡ true
        by_tests true true true e = refl
        by_tests true true false e = absurd (void (cc))
        by_tests true false r e = absurd (void (cc))
        by_tests false b r e = absurd (void (cc))
