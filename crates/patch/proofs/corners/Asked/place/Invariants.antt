use Rattle.std.proofs.Common.{◌≡◌, ◌+◌, ◌*◌, ◌^◌, ◌<◌, length, drop}
use Rattle.algebra.specs.Layout.{numbers}
use Rattle.patch.specs.Corners.{corner_of}
use Rattle.patch.proofs.BoxCorners.{corner_from}
use Rattle.patch.proofs.corners.Asked.place.Given as goal

abbrev pub invariant-loop-axis : goal.invariant-loop-axis
invariant-loop-axis g l =
    let ns = l.self.degrees.now in
    let hs = corner_of (length ns) l.corner in
    (l.place * numbers (drop l.axis ns) + corner_from ns hs l.axis ≡ corner_from ns hs 0) × (l.place < 256 ^ l.axis)
