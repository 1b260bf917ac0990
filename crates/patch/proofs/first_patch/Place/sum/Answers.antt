use Rattle.patch.proofs.Summing.{at_below, none_added, all_added, own, sum_small, added}
use Rattle.patch.proofs.first_patch.Place.sum.Goals as goal

pub loop-term-init : goal.loop-term-init
loop-term-init c = let p = c.args.self.now in none_added p.axes.now c.args.terms.now c.requires p.at (at_below p)

pub term-requires : goal.term-requires
term-requires c = let p = c.args.self.now in own p.axes.now c.args.terms.now c.requires p.at (at_below p) c.loop-term.term-index _ c.loop-term-test.true _ _ c.loop-term.invariant

pub add_assign-requires : goal.add_assign-requires
add_assign-requires c = let p = c.args.self.now in sum_small p.axes.now c.args.terms.now c.requires p.at (at_below p) c.loop-term.term-index _ c.loop-term-test.true _ _ c.loop-term.invariant _ c.term.ensures

pub loop-term-preserved : goal.loop-term-preserved
loop-term-preserved c = let p = c.args.self.now in added p.axes.now c.args.terms.now c.requires p.at (at_below p) c.loop-term.term-index _ c.loop-term-test.true _ _ c.loop-term.invariant _ _ c.term.ensures c.add_assign.ensures.after

pub returns : goal.returns
returns c = let p = c.args.self.now in all_added p.axes.now c.args.terms.now c.requires p.at (at_below p) c.loop-term.term-index _ _ c.loop-term-test.false c.loop-term.invariant
