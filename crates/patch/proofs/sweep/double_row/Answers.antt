use Rattle.std.proofs.Common.{map, sym, ◌∙◌, subst, arith}
use Rattle.algebra.specs.Pair.{Within, sum}
use Rattle.patch.specs.Sweeps.{pair_at}
use Rattle.patch.proofs.Stretches.{item, part_more}
use Rattle.patch.proofs.Rows.{both}
use Rattle.patch.proofs.sweep.double_row.Goals as goal

pub add-requires : goal.add-requires
add-requires g c =
    let i = c.loop-x.x-index in
    let x = sym (c.loop-x.invariant.1 i (omega arith)) ∙ item g.K.Number.means c.loop-x.row i c.x-item.result (omega arith) in
    subst (Within g.K.Number.limit) (both x x) (c.requires i c.loop-x-test.true)

pub loop-x-preserved : goal.loop-x-preserved
loop-x-preserved g c =
    let f = g.K.Number.means in
    let i = c.loop-x.x-index in
    let was = pair_at (map f c.args.row.now) in
    let x = sym (item f c.loop-x.row i c.x-item.result (omega arith)) ∙ c.loop-x.invariant.1 i (omega arith) in
    part_more f (λ p. sum (was p) (was p)) was c.loop-x.row i c.add.result (omega arith) (c.add.ensures ∙ both x x) c.loop-x.invariant
