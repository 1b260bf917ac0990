use Rattle.std.proofs.Common.{◌≡◌}
use Rattle.chooser.specs.BySigns.{tally, differ_at}
use Rattle.chooser.proofs.by_signs.changes_in.Given as goal

abbrev pub invariant-loop-k : goal.invariant-loop-k
invariant-loop-k l = l.found ≡ tally (differ_at l.block l.stride) 0 l.k
