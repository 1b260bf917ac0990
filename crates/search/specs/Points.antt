-- A point as the code holds it.
use Rattle.patch.specs.Box.{Coordinate}
use Rattle.search.specs.declared.coordinate.Coordinate.{Coordinate as Held}

-- the coordinate that the code's struct holds
abbrev pub means : Held → Coordinate
means x = record { numerator = x.numerator; power = x.power }
