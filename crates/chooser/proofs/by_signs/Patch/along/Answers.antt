use Rattle.std.proofs.Common.{length}
use Rattle.patch.proofs.Counting.{of_shape}
use Rattle.chooser.proofs.Along.{lie_along}
use Rattle.chooser.proofs.by_signs.Patch.along.Goals as goal

pub invariant_of-result : goal.invariant_of-result
invariant_of-result c =
    let patch = c.args.self.now in
    let shape = c.in_ok-shape.shape in
    let known = of_shape patch.degrees.now c.args.axis shape c.in_ok-shape.ensures in
    record { lie = lie_along patch.degrees.now c.args.axis shape (length patch.signs.now) known.2 known.0 patch.whole }
