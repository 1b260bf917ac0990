use Rattle.std.proofs.Common.{◌≡◌}
use Rattle.ticket.specs.Drafts.{seen}
use Rattle.ticket.specs.Reading.{nothing}
use Rattle.ticket.proofs.Turns.{each_read, left}
use Rattle.ticket.proofs.reading.read_records.Given as goal

abbrev pub invariant-loop-at : goal.invariant-loop-at
invariant-loop-at l = each_read 0 nothing l.records ≡ left l.at (seen l.draft) l.records
