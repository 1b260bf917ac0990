-- What is written and what is left make the whole.
use Rattle.std.proofs.Common.{drop}
use Rattle.std.specs.Fmt.{IsPlainFormatter}
use Rattle.page.proofs.SoFar.{SoFar}
use Rattle.page.specs.Text.{powers_text}
use Rattle.page.proofs.product.PowersDisplay.fmt.Given as goal

abbrev pub invariant-loop-axis : goal.invariant-loop-axis
invariant-loop-axis g l =
    IsPlainFormatter l.initial.f → SoFar g.W.Write.write_str_gives l.initial.f l.f (powers_text l.leads l.axis (drop l.axis l.self.exponents)) (powers_text l.self.leads 0 l.self.exponents)
