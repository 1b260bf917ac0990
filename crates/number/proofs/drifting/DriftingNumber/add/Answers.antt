use Rattle.std.proofs.Common.{arith}
use Rattle.number.proofs.Words.{sums_of_parts}
use Rattle.number.proofs.drifting.DriftingNumber.add.Goals as goal

pub returns : goal.returns
returns c = grind (arith, sums_of_parts c.args.self c.args.other)
