use Rattle.std.proofs.Common.{◌≡◌, ◌≤◌, pos, nat_abs, ap, ◌∙◌, le_trans, w64, to_z, of_z}
use Rattle.algebra.specs.Bernstein.{share}
use Rattle.number.specs.Limits.{word}
use Rattle.ticket.specs.Sizes.{common}
use Rattle.patch.specs.Conversion.{summand_of}
use Rattle.patch.proofs.Bounds.{summand_small}
use Rattle.patch.proofs.Table.{weight_is_share}
use Rattle.patch.proofs.Words.{answer_is, product_fits, product_is}
use Rattle.patch.proofs.conversion.Power.summand.Goals as goal

weight_is : (c : goal.After-weight) → to_z w64 (of_z w64 c.weight.result) ≡ pos (share (common c.args.self.axis.degree) c.args.self.axis.degree c.args.k c.args.m)
weight_is c =
    let known = c.args.self.convertible in
    answer_is c.weight.type_inv (c.weight.ensures
    ∙ ap pos (weight_is_share c.args.self.axis.degree c.args.k c.args.m known.some_degree known.degree c.requires.asked (le_trans c.requires.place known.exponent)))

small : (c : goal.After-weight) → nat_abs (summand_of c.args.self.axis c.args.self.exponent c.args.k c.args.m) ≤ word
small c =
    let axis = c.args.self.axis in
    le_trans (summand_small axis.lower axis.upper c.args.self.exponent (common axis.degree) axis.degree c.args.k c.requires.asked c.args.m c.requires.place) c.args.self.convertible.room

pub overflow_mul-result : goal.overflow_mul-result
overflow_mul-result c = product_fits (answer_is c.shifted.type_inv c.shifted.ensures) (weight_is c) (small c)

pub returns : goal.returns
returns c = product_is (answer_is c.shifted.type_inv c.shifted.ensures) (weight_is c) (small c)
