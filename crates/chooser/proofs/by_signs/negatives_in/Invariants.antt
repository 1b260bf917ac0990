use Rattle.std.proofs.Common.{◌≡◌}
use Rattle.chooser.specs.BySigns.{tally, negative_at}
use Rattle.chooser.proofs.by_signs.negatives_in.Given as goal

abbrev pub invariant-loop-sign : goal.invariant-loop-sign
invariant-loop-sign l = l.found ≡ tally (negative_at l.row) 0 l.sign-index
