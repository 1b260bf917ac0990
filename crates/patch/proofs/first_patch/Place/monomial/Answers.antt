use Rattle.std.proofs.Common.{◌/◌, ◌+◌, ◌<◌, ap, ◌∙◌, inl, inr, ⊎_elim, refl, arith}
use Rattle.patch.proofs.Monomials.{none_yet, all_done, turn_convertible, turn_index, turn_small, turn_next}
use Rattle.patch.proofs.Words.{answer_is, product_fits, product_is}
use Rattle.patch.proofs.first_patch.Place.monomial.Goals as goal

pub loop-axis-init : goal.loop-axis-init
loop-axis-init c =
    let place = c.args.self.now in
    let made = c.into_iter-axis-iterator.ensures.into_iter_gives in
    none_yet place.axes.now c.args.exponents.now place.size place.at c.requires place.whole place.inside _ _
    (ap (λ z. z.a.rest.now) made ∙ ap (λ z. z.rest.now) c.zip-axis-items.ensures.first ∙ c.iter.ensures.rest)
    (ap (λ z. z.b.rest.now) made ∙ c.zip-axis-items.ensures.second.0)

pub invariant_of-power : goal.invariant_of-power
invariant_of-power c =
    let s = c.in-Some.ensures.steps in
    record { convertible = turn_convertible _ _ _ _ s.0 s.1 _ _ _ _ c.loop-axis.invariant _ c.from.ensures }

pub converted-product-requires : goal.converted-product-requires
converted-product-requires c = let s = c.in-Some.ensures.steps in turn_index _ _ _ _ s.0 s.1 _ _ _ _ c.loop-axis.invariant _ c.from.ensures

pub overflow_cast-left : goal.overflow_cast-left
overflow_cast-left c =
    let s = c.in-Some.ensures.steps in
    let a = turn_convertible _ _ _ _ s.0 s.1 _ _ _ _ c.loop-axis.invariant _ c.from.ensures in
    let i = turn_index _ _ _ _ s.0 s.1 _ _ _ _ c.loop-axis.invariant _ c.from.ensures in
    let k : c.loop-axis.left / (c.loop-axis.later / (c.from.result + 1)) < 256 = omega (arith, i, a.degree) in
    record { fits = k }

pub overflow_mul-product : goal.overflow_mul-product
overflow_mul-product c =
    let s = c.in-Some.ensures.steps in
    product_fits refl (answer_is c.converted-product.type_inv c.converted-product.ensures.is) (turn_small _ _ _ _ s.0 s.1 _ _ _ _ c.loop-axis.invariant _ c.from.ensures)

pub loop-axis-preserved : goal.loop-axis-preserved
loop-axis-preserved c =
    let s = c.in-Some.ensures.steps in
    turn_next _ _ _ _ s.0 s.1 _ _ _ _ c.loop-axis.invariant _ c.from.ensures _
    (product_is refl (answer_is c.converted-product.type_inv c.converted-product.ensures.is) (turn_small _ _ _ _ s.0 s.1 _ _ _ _ c.loop-axis.invariant _ c.from.ensures))

pub returns : goal.returns
returns c = all_done _ _ _ _ _ _ (⊎_elim (λ h. inl h.1.0) (λ h. inr h.1.0) c.in-None.ensures.steps) c.loop-axis.invariant
