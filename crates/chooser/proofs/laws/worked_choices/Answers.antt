use Rattle.chooser.proofs.Examples.{worked_choices}
use Rattle.chooser.proofs.laws.worked_choices.Goals as goal

pub returns : goal.returns
returns c = worked_choices
