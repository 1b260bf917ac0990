-- The worked examples, by computation.
use Rattle.std.proofs.Common.{refl}
use Rattle.chooser.specs.Examples.{WorkedChoices}

pub worked_choices : WorkedChoices
worked_choices = record { two_ahead = λ h d signs. refl; one_ahead = λ h d signs. refl; in_turn = refl; across = refl; along = refl; flat = refl; odd = refl }
