use Rattle.std.proofs.Common.{map}
use Rattle.patch.specs.Sweeps.{pair_at}
use Rattle.patch.proofs.Blocks.{Done}
use Rattle.patch.proofs.sweep.halve_patch.Given as goal

abbrev pub invariant-loop-b : goal.invariant-loop-b
invariant-loop-b g l = Done l.rows.half l.rows.degree l.rows.stride (pair_at (map g.K.Number.means l.initial.patch)) l.b (pair_at (map g.K.Number.means l.patch))
