use Rattle.std.proofs.Common.{◌≡◌, ◌+◌, ◌-◌, map, subst, arith}
use Rattle.patch.specs.Sweeps.{pair_at}
use Rattle.patch.proofs.Rows.{Staged, staged_more}
use Rattle.patch.proofs.sweep.sweep.Goals as goal

pub loop-u-preserved : goal.loop-u-preserved
loop-u-preserved g c =
    let f = g.K.Number.means in
    let was = pair_at (map f c.args.block.now) in
    let new = pair_at (map f c.sweep_row.new.block) in
    let e : c.loop-u.u ≡ c.loop-u.u - 1 + 1 = omega arith in
    subst (λ t. Staged c.args.rows c.args.j was t new) e (staged_more c.args.rows c.args.j was c.loop-u.u (pair_at (map f c.loop-u.block)) new c.loop-u.auto.u c.sweep_row.ensures.kept c.loop-u.invariant c.sweep_row.ensures.sums)

pub returns-2 : goal.returns-2
returns-2 g c u i a l =
    let f = g.K.Number.means in
    let new = pair_at (map f c.sweep_row.new.block) in
    let s = staged_more c.args.rows c.args.j (pair_at (map f c.args.block.now)) c.loop-u.u (pair_at (map f c.loop-u.block)) new c.loop-u.auto.u c.sweep_row.ensures.kept c.loop-u.invariant c.sweep_row.ensures.sums in
    s.new u i a (omega arith) l
