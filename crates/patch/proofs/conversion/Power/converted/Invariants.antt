use Rattle.std.proofs.Common.{◌≡◌}
use Rattle.algebra.specs.Module.{integers}
use Rattle.algebra.specs.Bernstein.{total}
use Rattle.patch.specs.Conversion.{summand_of}
use Rattle.patch.proofs.conversion.Power.converted.Given as goal

abbrev pub invariant-loop-m : goal.invariant-loop-m
invariant-loop-m l = l.sum ≡ total integers l.m (summand_of l.self.axis l.self.exponent l.k)
