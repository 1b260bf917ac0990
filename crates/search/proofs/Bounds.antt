-- How many boxes wait, how many are examined, and how deep a search is.
use Rattle.std.proofs.Common.{◌≡◌, ℕ, zero, suc, ◌+◌, ◌-◌, ◌^◌, ◌<◌, ◌≤◌, Bool, true, false, cond, not, ◌&&◌, ltb, List, [], ◌∷◌, length, is_some, None, refl, ap, inl, inr, arith, pow_pos, pow_mono}
use lib.ListN.{length-map}
use Rattle.std.proofs.lemmas.Bool.{and_parts, leb-true}
use Rattle.ticket.specs.Numbers.{is_depth}
use Rattle.ticket.specs.WellFormed.{Content, Formed}
use Rattle.chooser.specs.Choice.{Meaning, Picks}
use Rattle.search.specs.Search.{Piece, Search, level, start, step, steps, word}
use Rattle.search.specs.Calls.{is_open, has_room, checked, is_granted, examined_by_step, examined_by, next, after_calls}
use Rattle.search.specs.Courses.{Course, reached, asked, ceiling, Finished}
use Rattle.search.specs.declared.call.Call.{Call}
use Rattle.search.specs.declared.call.Call.TheVariants.{Run, Deepen, Verdict as verdict, Point as point}
use Rattle.search.specs.declared.call.CallRefusal.TheVariants.{Workspace, NotOpen, NotDeeper}
use Rattle.search.proofs.Keeping.{void, keep_steps}
use Rattle.search.proofs.Words.{running_waits}
use Rattle.search.proofs.Steps.{same_depth}
use Rattle.search.proofs.Replies.{Paced, run_examines, examined_is_asked}
use Rattle.search.proofs.Orderly.{full, full_is_ceiling, full_some, cost, boxes_of, Orderly, stacked_few, steps_are_orderly, reached_is_orderly}

-- ---- one state
pub orderly_examined : (m : ℕ) (s : Search) → Orderly m s → s.examined ≤ ceiling s.depth
orderly_examined m s o = omega (arith, o.within, full_is_ceiling s.depth)

pub orderly_waiting : (m : ℕ) (s : Search) → Orderly m s → length s.waiting ≤ suc s.depth
orderly_waiting m s o = omega (arith, stacked_few m s.depth (boxes_of s.waiting) o.stacked, length-map s.waiting (λ x. x.box))

-- so a word of 32 bits holds every count of a search that is at most 24 deep
pub ceiling_below : (d : ℕ) → d ≤ 24 → ceiling d < 2 ^ 25
ceiling_below d h =
    let k : d + 1 ≤ 25 = omega arith in
    omega (arith, pow_mono k, pow_pos (d + 1))

-- ---- one run
first_at_most_one : (xs : List Piece) → examined_by_step xs ≤ 1
first_at_most_one [] = omega arith
first_at_most_one (x ∷ xs) = omega arith

pub run_answers_at_most : (c : Content) (limit : ℕ) (μ : Meaning) (n : ℕ) (s : Search) → examined_by c limit μ n s ≤ n
run_answers_at_most c limit μ zero s = omega arith
run_answers_at_most c limit μ (suc n) s = omega (arith, first_at_most_one s.waiting, run_answers_at_most c limit μ n (step c limit μ s))

pub steps_same_depth : (c : Content) (limit : ℕ) (μ : Meaning) (n : ℕ) (s : Search) → (steps c limit μ n s).depth ≡ s.depth
steps_same_depth c limit μ n s = keep_steps c limit μ (λ t. t.depth ≡ s.depth) (λ t x xs h o e. omega (arith, same_depth c t x xs o)) n s refl

pub run_answers_within_ceiling : (c : Content) (limit : ℕ) (μ : Meaning) → Formed c → Picks μ → (n : ℕ) (s : Search) → Orderly (length c.axes) s → s.examined + examined_by c limit μ n s ≤ ceiling s.depth
run_answers_within_ceiling c limit μ formed picks n s o =
    let e = orderly_examined (length c.axes) (steps c limit μ n s) (steps_are_orderly c μ formed picks limit n s o) in
    omega (arith, e, run_examines c limit μ n s, ap ceiling (steps_same_depth c limit μ n s))

-- ---- no search is deeper than 24 that did not start so
deepened_within : (c : Content) (s : Search) (d : ℕ) (a b r : Bool) → (b ≡ true → d ≤ 24) → s.depth ≤ 24 →
    (cond (not (is_some (checked a NotOpen (checked b NotDeeper (checked r Workspace None))))) (start c d) s).depth ≤ 24
deepened_within c s d true true true h k = h refl
deepened_within c s d true true false h k = k
deepened_within c s d true false r h k = k
deepened_within c s d false b r h k = k

either_within : (s t : Search) (b : Bool) → s.depth ≤ 24 → t.depth ≤ 24 → (cond b s t).depth ≤ 24
either_within s t true h k = h
either_within s t false h k = k

module _ (c : Content) (limit : ℕ) (μ : Meaning) (len : ℕ) where
  pub next_within_24 : (s : Search) (call : Call) → s.depth ≤ 24 → (next c limit μ len s call).depth ≤ 24
  next_within_24 s (Run n) h = either_within (steps c limit μ n s) s (is_granted c len s (Run n)) (omega (arith, steps_same_depth c limit μ n s)) h
  next_within_24 s (Deepen d) h =
      deepened_within c s d (is_open (word s)) (ltb s.depth d && is_depth d) (has_room c len d) (λ e. leb-true d 24 (and_parts (ltb s.depth d) (is_depth d) e).1) h
  next_within_24 s verdict h = h
  next_within_24 s point h = either_within s s (is_granted c len s point) h h

  pub calls_within_24 : (calls : List Call) (s : Search) → s.depth ≤ 24 → (after_calls c limit μ len s calls).depth ≤ 24
  calls_within_24 [] s h = h
  calls_within_24 (call ∷ calls) s h = calls_within_24 calls (next c limit μ len s call) (next_within_24 s call h)

-- ---- any calls
module _ (c : Content) (μ : Meaning) (formed : Formed c) (picks : Picks μ) (r : Course) where
  orderly : Orderly (length c.axes) (reached c μ r)
  orderly = reached_is_orderly c μ formed picks r

  pub few_examined : (reached c μ r).examined ≤ ceiling (reached c μ r).depth
  few_examined = orderly_examined (length c.axes) (reached c μ r) orderly

  pub few_waiting : length (reached c μ r).waiting ≤ suc (reached c μ r).depth
  few_waiting = orderly_waiting (length c.axes) (reached c μ r) orderly

  none_waits : (x : Piece) (xs : List Piece) → (reached c μ r).waiting ≡ x ∷ xs → ceiling (reached c μ r).depth ≤ asked c μ r → Paced (asked c μ r) (reached c μ r) → ⊥
  none_waits x xs e h (inl z) = void (cc)
  none_waits x xs e h (inr z) =
      let w = orderly.within in
      let d = (reached c μ r).depth in
      let v : cost d (boxes_of (reached c μ r).waiting) ≡ full (d - level x.box) + cost d (boxes_of xs) = ap (λ ys. cost d (boxes_of ys)) e in
      omega (arith, full_is_ceiling d, full_some (d - level x.box))

  pub finishes : ceiling (reached c μ r).depth ≤ asked c μ r → Finished (word (reached c μ r))
  finishes h e =
      let w = running_waits (reached c μ r).waiting (reached c μ r).corner _ e in
      none_waits w.0 w.1 w.2 h (examined_is_asked c μ r)
