use Rattle.number.proofs.Growth.{growth_of_nought, growth_within, growth_of_sum}
use Rattle.number.proofs.number.growth_gives_room.Goals as goal

pub returns : goal.returns
returns c = record { nought = growth_of_nought; within = growth_within; sums = growth_of_sum }
