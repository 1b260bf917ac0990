-- What is written and what is left make the whole.
use Rattle.std.proofs.Common.{[], ◌∷◌, ◌++◌, drop}
use Rattle.std.specs.Fmt.{IsPlainFormatter}
use Rattle.page.proofs.SoFar.{SoFar}
use Rattle.page.specs.Text.{axis_text, numbered, axes_text}
use Rattle.page.proofs.page.AxisLinesDisplay.fmt.Given as goal

abbrev pub invariant-loop-number : goal.invariant-loop-number
invariant-loop-number g l =
    IsPlainFormatter l.initial.f → SoFar g.W.Write.write_str_gives l.initial.f l.f (numbered (λ n a. axis_text n a ++ 10 ∷ []) l.number (drop l.number l.self.0.now)) (axes_text l.self.0.now)
