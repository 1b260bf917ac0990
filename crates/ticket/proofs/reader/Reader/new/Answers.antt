use Rattle.std.proofs.lemmas.List.{take_rest}
use Rattle.ticket.proofs.reader.Reader.new.Goals as goal

pub returns : goal.returns
returns c = take_rest c.args.bytes.now 0
