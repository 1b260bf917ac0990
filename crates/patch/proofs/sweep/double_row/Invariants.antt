use Rattle.std.proofs.Common.{map}
use Rattle.algebra.specs.Pair.{sum}
use Rattle.patch.specs.Sweeps.{pair_at}
use Rattle.patch.proofs.Stretches.{Part}
use Rattle.patch.proofs.sweep.double_row.Given as goal

abbrev pub invariant-loop-x : goal.invariant-loop-x
invariant-loop-x g l =
    let was = pair_at (map g.K.Number.means l.initial.row) in
    Part (pair_at (map g.K.Number.means l.row)) (λ p. sum (was p) (was p)) was l.x-index
