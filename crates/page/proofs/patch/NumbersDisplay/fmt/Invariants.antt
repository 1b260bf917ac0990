-- The numbers so far are written.
use Rattle.std.proofs.Common.{false, take}
use Rattle.std.specs.Fmt.{IsPlainFormatter, HasWritten}
use Rattle.std.specs.List.{flat_map}
use Rattle.page.specs.Text.{listed_text}
use Rattle.page.proofs.patch.NumbersDisplay.fmt.Given as goal

abbrev pub invariant-loop-number : goal.invariant-loop-number
invariant-loop-number g l =
    IsPlainFormatter l.initial.f → HasWritten g.W.Write.write_str_gives l.initial.f (flat_map (listed_text false) (take l.number-index l.rest)) l.f
