-- What examining a box does whatever comes of it, and what steps do where none waits.
use Rattle.std.proofs.Common.{◌≡◌, ℕ, zero, suc, ◌+◌, List, [], refl, ap, ◌∙◌, arith}
use Rattle.ticket.specs.WellFormed.{Content}
use Rattle.chooser.specs.Choice.{Meaning}
use Rattle.search.specs.Search.{Piece, Search, Outcome, settled, broken, too_deep, too_large, split, after, step_over, step, steps}
use Rattle.search.specs.Calls.{examined_by_step, examined_by}

pub same_depth : (c : Content) (s : Search) (x : Piece) (xs : List Piece) (o : Outcome) → (after c s x xs o).depth ≡ s.depth
same_depth c s x xs settled = refl
same_depth c s x xs (broken es) = refl
same_depth c s x xs too_deep = refl
same_depth c s x xs too_large = refl
same_depth c s x xs (split y z) = refl

pub one_examined : (c : Content) (s : Search) (x : Piece) (xs : List Piece) (o : Outcome) → (after c s x xs o).examined ≡ s.examined + 1
one_examined c s x xs settled = refl
one_examined c s x xs (broken es) = refl
one_examined c s x xs too_deep = refl
one_examined c s x xs too_large = refl
one_examined c s x xs (split y z) = refl

-- ---- no box waits
module _ (c : Content) (limit : ℕ) (μ : Meaning) where
  idle_step : (s : Search) → s.waiting ≡ [] → step c limit μ s ≡ s
  idle_step s e = ap (step_over c limit μ s) e

  pub idle_steps : (n : ℕ) (s : Search) → s.waiting ≡ [] → steps c limit μ n s ≡ s
  idle_steps zero s e = refl
  idle_steps (suc n) s e = ap (steps c limit μ n) (idle_step s e) ∙ idle_steps n s e

  pub idle_run : (n : ℕ) (s : Search) → s.waiting ≡ [] → examined_by c limit μ n s ≡ 0
  idle_run zero s e = refl
  idle_run (suc n) s e =
      let r = idle_run n s e in
      omega (arith, ap examined_by_step e, ap (examined_by c limit μ n) (idle_step s e))
