use Rattle.std.proofs.Common.{◌≡◌, ◌+◌, ◌≤◌, ◌++◌, map, length}
use Rattle.patch.specs.Box.{box_ends}
use Rattle.patch.specs.Corners.{ends_of}
use Rattle.case.proofs.record.Record.ends.Given as goal

abbrev pub invariant-loop-axis : goal.invariant-loop-axis
invariant-loop-axis l =
    let later = l.axis-iterator.a.rest.now in
    let after = l.axis-iterator.b.rest.now in
    (map ends_of l.ends.items ++ box_ends later after ≡ box_ends l.axes l.self) × (length l.ends.items + length later ≡ length l.axes) × (length later ≤ length after)
