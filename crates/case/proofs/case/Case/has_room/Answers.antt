use Rattle.case.specs.Model.{ticket_of}
use Rattle.case.proofs.Ran.{room_by_size}
use Rattle.case.proofs.case.Case.has_room.Goals as goal

pub returns : goal.returns
returns g c = room_by_size (ticket_of c.args.self.now) c.args.length c.args.depth c.args.self.now.size c.args.self.now.sized
