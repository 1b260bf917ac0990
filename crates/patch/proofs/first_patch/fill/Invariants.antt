use Rattle.std.proofs.Common.{◌≡◌, map, take}
use Rattle.std.specs.List.{range_with_len}
use Rattle.ticket.specs.Law.{content}
use Rattle.patch.specs.FirstPatch.{turned, number_at}
use Rattle.patch.proofs.first_patch.fill.Given as goal

abbrev pub invariant-loop-at : goal.invariant-loop-at
invariant-loop-at g l = map g.K.Number.means (take l.at l.patch) ≡ map (number_at (turned (content l.ticket.ticket))) (range_with_len 0 l.at)
