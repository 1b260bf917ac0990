use Rattle.std.proofs.Common.{rules, ◌^◌, ◌<◌, ◌+◌, ◌*◌, length, arith, ap, ◌∙◌}
use borrow.Author.Tests.{tests}
use Rattle.chooser.proofs.Totals.{negatives_of_blocks}
use Rattle.chooser.proofs.by_signs.Rows.negatives.Goals as goal

pub sum-requires-clause-fits : goal.sum-requires-clause-fits
sum-requires-clause-fits c =
    let rows = c.args.self.now in
    let signs = rows.signs.now in
    let h : length signs < 2 ^ 64 = search rules in
    λ p t e.
    let sums = negatives_of_blocks rows.shape signs rows.lie _ _ _ c.chunks_exact.ensures.runs c.chunks_exact.ensures.rest c.args.index c.requires _ c.map.ensures.runs
    (c.chunks_exact.ensures.size ∙ ap (λ n. (n + 1) * rows.shape.stride) c.from-rows.ensures) (λ x y q k. search (rules, tests)) p e in
    omega (arith, sums.0)

pub returns : goal.returns
returns c =
    let rows = c.args.self.now in
    let signs = rows.signs.now in
    let (p, e, w, total) = c.sum.ensures.runs tt in
    let sums = negatives_of_blocks rows.shape signs rows.lie _ _ _ c.chunks_exact.ensures.runs c.chunks_exact.ensures.rest c.args.index c.requires _ c.map.ensures.runs
    (c.chunks_exact.ensures.size ∙ ap (λ n. (n + 1) * rows.shape.stride) c.from-rows.ensures) (λ x y q k. search (rules, tests)) p e in
    total ∙ sums.1 w
