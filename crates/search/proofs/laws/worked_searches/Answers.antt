use Rattle.search.proofs.Examples.{worked_tickets, worked_points, worked_calls}
use Rattle.search.proofs.laws.worked_searches.Goals as goal

pub returns : goal.returns
returns c = record { tickets = worked_tickets; points = worked_points; calls = worked_calls }
