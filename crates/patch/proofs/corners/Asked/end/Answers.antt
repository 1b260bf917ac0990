use Rattle.std.proofs.Common.{◌≡◌, ◌-◌, ◌/◌, ◌%◌, ◌^◌, length, sym, ap, ◌∙◌, arith}
use Rattle.patch.specs.Corners.{end_of}
use Rattle.patch.proofs.BoxCorners.{end_here, end_past}
use Rattle.patch.proofs.corners.Asked.end.Goals as goal
use Rattle.patch.proofs.corners.Asked.end.Goals.{else-axis-axes-via-then-axis-axes+else-corner-axes-eq1, else-axis-axes-via-else-axis-axes}

pub returns-then-corner-axes-eq1 : goal.returns-then-corner-axes-eq1
returns-then-corner-axes-eq1 g c =
    let m = length c.args.self.now.degrees.now in
    sym (end_here m c.args.corner c.args.axis c.if-axis-axes.true ∙ ap end_of c.if-corner-axes-eq1.true)

pub returns-else-axis-axes : goal.returns-else-axis-axes
returns-else-axis-axes g c =
    let m = length c.args.self.now.degrees.now in
    elim c.else-axis-axes.branch [
      | else-axis-axes-via-then-axis-axes+else-corner-axes-eq1 w ↦
          let zero : c.args.corner / 2 ^ (m - 1 - c.args.axis) % 2 ≡ 0 = omega (arith, w.if-corner-axes-eq1.false) in
          sym (end_here m c.args.corner c.args.axis w.if-axis-axes.true ∙ ap end_of zero)
      | else-axis-axes-via-else-axis-axes w ↦ sym (end_past m c.args.corner c.args.axis w.if-axis-axes.false)
    ]
