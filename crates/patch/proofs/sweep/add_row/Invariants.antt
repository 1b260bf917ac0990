use Rattle.std.proofs.Common.{map}
use Rattle.algebra.specs.Pair.{sum}
use Rattle.patch.specs.Sweeps.{pair_at}
use Rattle.patch.proofs.Stretches.{Part}
use Rattle.patch.proofs.sweep.add_row.Given as goal

abbrev pub invariant-loop-i : goal.invariant-loop-i
invariant-loop-i g l =
    let was = pair_at (map g.K.Number.means l.initial.row) in
    Part (pair_at (map g.K.Number.means l.row)) (λ p. sum (was p) (pair_at (map g.K.Number.means l.other) p)) was l.i
