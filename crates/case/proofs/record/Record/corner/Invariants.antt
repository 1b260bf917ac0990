use Rattle.std.proofs.Common.{◌≡◌, map, length, take}
use Rattle.patch.specs.Box.{coordinates}
use Rattle.patch.specs.Corners.{corner_of}
use Rattle.search.specs.Points.{means}
use Rattle.case.proofs.record.Record.corner.Given as goal

abbrev pub invariant-loop-j : goal.invariant-loop-j
invariant-loop-j l = (length l.point.items ≡ l.j) × (map means l.point.items ≡ take l.j (coordinates l.axes l.self-inside.parts (corner_of (length l.axes) l.corner)))
