use Rattle.std.proofs.Common.{◌≡◌, ◌+◌, ◌*◌, ◌<◌, ◌^◌, length, get_or, ap₂, ◌∙◌, mul_comm, arith, rules}
use Rattle.algebra.specs.Layout.{numbers, stride}
use Rattle.patch.proofs.Counting.{size_is, blocks_below, stride_below, block_below, back_is, of_count, of_no_count, shaped_is, shaped_none, not_held}
use Rattle.patch.proofs.shape.Shape.along.Goals as goal

-- where a part of a patch is larger than a word tells, the patch is
pub returns-in_err-blocks : goal.returns-in_err-blocks
returns-in_err-blocks c =
    let ns = c.args.degrees.now in
    let j = c.args.axis in
    let l : j < length ns = search rules in
    let none = of_no_count _ c.in_err-blocks.ensures in
    c.from_residual-in_err-blocks.ensures ∙ shaped_none ns j (omega (arith, none, blocks_below ns j l))

pub returns-in_err-stride : goal.returns-in_err-stride
returns-in_err-stride c =
    let ns = c.args.degrees.now in
    let j = c.args.axis in
    let l : j < length ns = search rules in
    let none = of_no_count _ c.in_err-stride.ensures in
    c.from_residual-in_err-stride.ensures ∙ shaped_none ns j (omega (arith, none, back_is ns j l, stride_below ns j l))

pub returns-in_err-block : goal.returns-in_err-block
returns-in_err-block c =
    let ns = c.args.degrees.now in
    let j = c.args.axis in
    let l : j < length ns = search rules in
    let d : c.from.result ≡ get_or ns j 0 = search rules in
    let s : c.in_ok-stride.stride ≡ stride ns j = (of_count _ _ c.in_ok-stride.ensures).1 ∙ back_is ns j l in
    let block : c.in_ok-stride.stride * (c.from.result + 1) ≡ (get_or ns j 0 + 1) * stride ns j = ap₂ (λ m n. m * (n + 1)) s d ∙ mul_comm (stride ns j) (get_or ns j 0 + 1) in
    let large = not_held _ c.in_err-block.ensures in
    c.from_residual-in_err-block.ensures ∙ shaped_none ns j (omega (arith, large, block, block_below ns j l))

pub returns-in_err-size : goal.returns-in_err-size
returns-in_err-size c =
    let ns = c.args.degrees.now in
    let j = c.args.axis in
    let l : j < length ns = search rules in
    let d : c.from.result ≡ get_or ns j 0 = search rules in
    let s : c.in_ok-stride.stride ≡ stride ns j = (of_count _ _ c.in_ok-stride.ensures).1 ∙ back_is ns j l in
    let block : c.in_ok-block.block ≡ (get_or ns j 0 + 1) * stride ns j = c.in_ok-block.ensures.1 ∙ ap₂ (λ m n. m * (n + 1)) s d ∙ mul_comm (stride ns j) (get_or ns j 0 + 1) in
    let b = (of_count _ _ c.in_ok-blocks.ensures).1 in
    let large = not_held _ c.in_err-size.ensures in
    c.from_residual-in_err-size.ensures ∙ shaped_none ns j (omega (arith, large, ap₂ ◌*◌ b block, size_is ns j l))

pub returns : goal.returns
returns c =
    let ns = c.args.degrees.now in
    let j = c.args.axis in
    let l : j < length ns = search rules in
    let d : c.in_ok-degree.field-0.now ≡ get_or ns j 0 = search rules in
    let s : c.in_ok-stride.stride ≡ stride ns j = (of_count _ _ c.in_ok-stride.ensures).1 ∙ back_is ns j l in
    let from : c.from.result ≡ get_or ns j 0 = search rules in
    let block : c.in_ok-block.block ≡ (get_or ns j 0 + 1) * stride ns j = c.in_ok-block.ensures.1 ∙ ap₂ (λ m n. m * (n + 1)) s from ∙ mul_comm (stride ns j) (get_or ns j 0 + 1) in
    let b = (of_count _ _ c.in_ok-blocks.ensures).1 in
    let n : c.in_ok-size.size ≡ numbers ns = c.in_ok-size.ensures.1 ∙ ap₂ ◌*◌ b block ∙ size_is ns j l in
    let fits : c.in_ok-size.size < 2 ^ 64 = omega (arith, c.in_ok-size.ensures) in
    shaped_is ns j _ l (omega (arith, fits, n)) (cc)
