use Rattle.std.proofs.Common.{◌≡◌, ◌++◌, map, take, drop}
use Rattle.patch.specs.Judging.{signs}
use Rattle.patch.proofs.judging.write_signs.Given as goal

abbrev pub invariant-loop-i : goal.invariant-loop-i
invariant-loop-i g l = let m = g.K.Number in l.signs ≡ signs (take l.i (map m.means l.numbers)) ++ drop l.i l.initial.signs
