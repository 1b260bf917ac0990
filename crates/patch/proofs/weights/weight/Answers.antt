use Rattle.std.proofs.Common.{◌-◌, pos, refl, ap, ◌∙◌, rules}
use Rattle.patch.specs.Weights.{weight_of}
use Rattle.patch.proofs.Table.{rule, whole, square, outside}
use Rattle.patch.proofs.Words.{answer_is}
use Rattle.patch.proofs.weights.weight.Goals as goal

pub returns-then-i-le8 : goal.returns-then-i-le8
unfolding whole square weight_of
returns-then-i-le8 c =
    answer_is c.from-then-i-le8-3.type_inv
    (c.from-then-i-le8-3.ensures
    ∙ ap pos (rule _ refl _ _ (c.from.result - 1) c.from-then-i-le8.result c.from-then-i-le8-2.result c.args.n c.args.k c.args.i
    (search rules) c.from-then-i-le8.ensures c.from-then-i-le8-2.ensures (let k = c.if-contains.true in search rules) c.if-k-le8.true c.if-i-le8.true))

pub returns-else-contains : goal.returns-else-contains
returns-else-contains c = ap pos (outside _ _ _ c.contains.result (search rules) c.else-contains.either)
