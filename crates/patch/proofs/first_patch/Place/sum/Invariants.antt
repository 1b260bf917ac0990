use Rattle.std.proofs.Common.{drop}
use Rattle.patch.specs.FirstPatch.{coefficient_at}
use Rattle.patch.specs.Point.{sum_over}
use Rattle.patch.proofs.Summing.{ToAdd}
use Rattle.patch.proofs.first_patch.Place.sum.Given as goal

abbrev pub invariant-loop-term : goal.invariant-loop-term
invariant-loop-term l =
    ToAdd l.self.axes.now l.self.at (sum_over (λ t. coefficient_at l.self.axes.now l.self.at t.exponents) l.terms) (drop l.term-index l.terms) l.sum
