use Rattle.std.proofs.Common.{◌≡◌, ◌++◌, vec_items}
use Rattle.readings.specs.Lines.{copies}
use Rattle.readings.proofs.case.add_copies.Given as goal

abbrev pub invariant-loop : goal.invariant-loop
invariant-loop l = vec_items l.bytes ≡ vec_items l.initial.bytes ++ copies l.counter l.once
