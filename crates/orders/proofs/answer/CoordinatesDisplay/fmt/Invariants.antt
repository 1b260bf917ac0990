-- The coordinates so far are written.
use Rattle.std.proofs.Common.{◌∷◌, take}
use Rattle.std.specs.Fmt.{IsPlainFormatter, HasWritten}
use Rattle.std.specs.List.{flat_map}
use Rattle.search.specs.Points.{means}
use Rattle.search.specs.Text.{coordinate_text}
use Rattle.orders.proofs.answer.CoordinatesDisplay.fmt.Given as goal

abbrev pub invariant-loop-x : goal.invariant-loop-x
invariant-loop-x g l =
    IsPlainFormatter l.initial.f → HasWritten g.W.Write.write_str_gives l.initial.f (flat_map (λ x. 32 ∷ coordinate_text (means x)) (take l.x-index l.self.0.now)) l.f
