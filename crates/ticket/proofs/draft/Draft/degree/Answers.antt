use Rattle.std.proofs.Common.{arith}
use Rattle.std.proofs.lemmas.Grind.{common_steps}
use Rattle.ticket.proofs.Degrees.{degree_inside, degree_outside}
use Rattle.ticket.proofs.draft.Draft.degree.Goals as goal

pub returns : goal.returns
returns c = grind (arith, common_steps, degree_inside, degree_outside)
