-- What the numbers carry that a ticket is sized for.
use Rattle.std.specs.Prelude.{Bool, true, false}
use Rattle.readings.specs.declared.kind.Kind.{Kind}
use Rattle.readings.specs.declared.kind.Kind.TheVariants.{Plain, Drifting}

-- whether a kind of number carries drift
abbrev pub drifts_of : Kind → Bool
drifts_of Plain = false
drifts_of Drifting = true
