use Rattle.std.proofs.Common.{vec_items, sym, append-nil}
use Rattle.readings.proofs.Copying.{one_more}
use Rattle.readings.proofs.case.add_copies.Goals as goal

pub loop-init : goal.loop-init
loop-init c = sym (append-nil _)

pub loop-preserved : goal.loop-preserved
loop-preserved c =
    one_more (vec_items c.args.bytes.now) (vec_items c.loop.bytes) (vec_items c.extend_from_slice.new.self) c.args.once.now
    c.loop.counter c.loop.invariant c.in_ok-extend_from_slice.ensures.items
