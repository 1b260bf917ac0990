-- The terms so far are written.
use Rattle.std.proofs.Common.{false, take}
use Rattle.std.specs.Fmt.{IsPlainFormatter, HasWritten}
use Rattle.std.specs.List.{flat_map}
use Rattle.page.specs.Text.{summand_text}
use Rattle.page.proofs.polynomial.PolynomialDisplay.fmt.Given as goal

abbrev pub invariant-loop-term : goal.invariant-loop-term
invariant-loop-term g l =
    IsPlainFormatter l.initial.f → HasWritten g.W.Write.write_str_gives l.initial.f (flat_map (summand_text false) (take l.term-index l.rest)) l.f
