use Rattle.std.proofs.Common.{◌≡◌, take}
use Rattle.search.specs.Search.{halvings_of}
use Rattle.case.proofs.record.Record.halvings.Given as goal

abbrev pub invariant-loop-part : goal.invariant-loop-part
invariant-loop-part l = l.halvings.items ≡ halvings_of (take l.part-index l.part-items)
