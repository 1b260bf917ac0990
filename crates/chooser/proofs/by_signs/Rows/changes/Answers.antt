use Rattle.std.proofs.Common.{rules, of_calls, ◌≤◌, ◌+◌, ◌*◌, ◌^◌, ◌<◌, length, arith, ap, ◌∙◌}
use borrow.Author.Tests.{tests}
use Rattle.std.specs.Slice.Iter.{chunks_exact_size}
use Rattle.algebra.specs.declared.sign.Sign.{Sign}
use Rattle.patch.proofs.Rows.{next_row}
use Rattle.chooser.proofs.Along.{some_block, block_below}
use Rattle.chooser.proofs.Totals.{serves_blocks, changes_of_blocks}
use Rattle.chooser.proofs.by_signs.Rows.changes.Goals as goal

pub overflow_mul-rows : goal.overflow_mul-rows
overflow_mul-rows c =
    let rows = c.args.self.now in
    let h : length rows.signs.now < 2 ^ 64 = search rules in
    record { fits = omega (arith, block_below rows.shape _ rows.lie, ap (λ n. (n + 1) * rows.shape.stride) c.from-rows.ensures) }

pub chunks_exact-requires : goal.chunks_exact-requires
chunks_exact-requires c =
    let rows = c.args.self.now in
    omega (arith, some_block rows.shape _ rows.lie, ap (λ n. (n + 1) * rows.shape.stride) c.from-rows.ensures)

pub sum-requires-clause-can : goal.sum-requires-clause-can
sum-requires-clause-can c =
    let rows = c.args.self.now in
    let size = ap (chunks_exact_size {T = Sign}) c.map.ensures.source ∙ c.chunks_exact.ensures.size ∙ ap (λ n. (n + 1) * rows.shape.stride) c.from-rows.ensures in (
      omega (arith, size, some_block rows.shape _ rows.lie),
      serves_blocks _ c.map.result.f (λ x q r. search of_calls) _ c.map.result.iter
          (λ x l.
          let short : rows.shape.stride ≤ length x.now = omega (arith, l, size, next_row rows.shape.stride rows.shape.degree) in
          search (of_calls, rules)),
    )

pub sum-requires-clause-fits : goal.sum-requires-clause-fits
sum-requires-clause-fits c =
    let rows = c.args.self.now in
    let signs = rows.signs.now in
    let h : length signs < 2 ^ 64 = search rules in
    λ p t e.
    let sums = changes_of_blocks rows.shape signs rows.lie _ _ _ c.chunks_exact.ensures.runs c.chunks_exact.ensures.rest _ c.map.ensures.runs
    (c.chunks_exact.ensures.size ∙ ap (λ n. (n + 1) * rows.shape.stride) c.from-rows.ensures) (λ x y q k. search (rules, tests)) p e in
    omega (arith, sums.0)

pub returns : goal.returns
returns c =
    let rows = c.args.self.now in
    let signs = rows.signs.now in
    let (p, e, w, total) = c.sum.ensures.runs tt in
    let sums = changes_of_blocks rows.shape signs rows.lie _ _ _ c.chunks_exact.ensures.runs c.chunks_exact.ensures.rest _ c.map.ensures.runs
    (c.chunks_exact.ensures.size ∙ ap (λ n. (n + 1) * rows.shape.stride) c.from-rows.ensures) (λ x y q k. search (rules, tests)) p e in
    total ∙ sums.1 w
