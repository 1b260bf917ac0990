-- The point of a corner, axis by axis.
use Rattle.algebra.specs.declared.half.Half.{Half}
use Rattle.ticket.specs.declared.records.Axis.{Axis}
use Rattle.patch.specs.Box.{Part, end_at, Coordinate}

-- where a part ends
abbrev pub end_coordinate : Half → Axis → Part → Coordinate
end_coordinate e a x = record { numerator = end_at e a x; power = x.halvings }
