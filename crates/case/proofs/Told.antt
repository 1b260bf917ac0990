-- What a case tells of its search, whatever the workspace holds.
use Rattle.std.proofs.Common.{◌≡◌, ℕ, suc, ◌+◌, ◌^◌, ◌<◌, List, [], ◌∷◌, length, refl, ap, arith}
use Rattle.algebra.specs.Pair.{Pair}
use Rattle.number.specs.declared.number.Number.{Ghosts}
use Rattle.search.proofs.Bounds.{ceiling_below}
use Rattle.case.specs.Model.{pieces, model}
use Rattle.case.specs.declared.record.Record.{Record}
use Rattle.case.specs.declared.case.Case.{Case}
use Rattle.case.proofs.Standing.{axes, few_set_aside, examined_within_ceiling}

as_many_pieces : (m size : ℕ) (rs : List Record) (work : List Pair) → length (pieces m size rs work) ≡ length rs
as_many_pieces m size [] work = refl
as_many_pieces m size (r ∷ rs) work = ap suc (as_many_pieces m size rs work)

module _ {K : Type 0} {N : Ghosts K} (k : Case K N) where
  pub as_many_wait : (work : List Pair) → length (model k work).waiting ≡ length k.waiting
  as_many_wait work = as_many_pieces (axes k) k.size k.waiting work

  pub few_aside : k.aside_depth + k.aside_range < 2 ^ 32
  few_aside = omega (arith, few_set_aside k, examined_within_ceiling k, ceiling_below k.depth k.bounded)
