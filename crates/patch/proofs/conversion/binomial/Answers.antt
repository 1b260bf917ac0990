use Rattle.std.proofs.Common.{pos, refl, ap, ◌∙◌}
use Rattle.algebra.specs.Bernstein.{choose}
use Rattle.patch.proofs.Table.{square, square_rule}
use Rattle.patch.proofs.Words.{answer_is}
use Rattle.patch.proofs.conversion.binomial.Goals as goal

pub returns : goal.returns
unfolding square
returns c =
    answer_is c.from-3.type_inv
    (c.from-3.ensures ∙ ap pos (square_rule choose _ refl _ c.from.result c.from-2.result c.args.n c.args.m c.from.ensures c.from-2.ensures c.requires.0 c.requires.1))
