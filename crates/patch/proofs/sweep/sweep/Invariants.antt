use Rattle.std.proofs.Common.{◌+◌, map}
use Rattle.patch.specs.Sweeps.{pair_at}
use Rattle.patch.proofs.Rows.{Staged}
use Rattle.patch.proofs.sweep.sweep.Given as goal

abbrev pub invariant-loop-u : goal.invariant-loop-u
invariant-loop-u g l = Staged l.rows l.j (pair_at (map g.K.Number.means l.initial.block)) (l.u + 1) (pair_at (map g.K.Number.means l.block))
