use Rattle.patch.specs.FirstPatch.{coefficient_at}
use Rattle.patch.proofs.Monomials.{ToCome}
use Rattle.patch.proofs.first_patch.Place.monomial.Given as goal

abbrev pub invariant-loop-axis : goal.invariant-loop-axis
invariant-loop-axis l =
    let axes = l.self.axes.now in
    ToCome l.axis-iterator.a.rest.now l.axis-iterator.b.rest.now (coefficient_at axes l.self.at l.exponents) l.product l.later l.left
