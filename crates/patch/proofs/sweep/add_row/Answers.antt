use Rattle.std.proofs.Common.{map, sym, ap, ◌∙◌, subst, arith}
use Rattle.algebra.specs.Pair.{Within, sum}
use Rattle.patch.specs.Sweeps.{pair_at}
use Rattle.patch.proofs.Stretches.{item, part_more}
use Rattle.patch.proofs.Rows.{both}
use Rattle.patch.proofs.sweep.add_row.Goals as goal

pub add-requires : goal.add-requires
add-requires g c =
    let f = g.K.Number.means in
    let i = c.loop-i.i in
    let x = item f c.loop-i.row i c.index-row-i.result (omega arith) in
    let y = item f c.args.other.now i c.index-other-i.result (omega arith) ∙ sym (ap f c.index-other-i.is) in
    subst (Within g.K.Number.limit) (both (sym (c.loop-i.invariant.1 i (omega arith)) ∙ x) y) (c.requires.small i c.loop-i-test.true)

pub loop-i-preserved : goal.loop-i-preserved
loop-i-preserved g c =
    let f = g.K.Number.means in
    let i = c.loop-i.i in
    let was = pair_at (map f c.args.row.now) in
    let x = item f c.loop-i.row i c.index-row-i.result (omega arith) in
    let y = item f c.args.other.now i c.index-other-i.result (omega arith) ∙ sym (ap f c.index-other-i.is) in
    part_more f (λ p. sum (was p) (pair_at (map f c.args.other.now) p)) was c.loop-i.row i c.add.result (omega arith) (c.add.ensures ∙ both (sym x ∙ c.loop-i.invariant.1 i (omega arith)) (sym y)) c.loop-i.invariant
