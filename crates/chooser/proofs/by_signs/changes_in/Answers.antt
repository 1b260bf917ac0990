use Rattle.std.proofs.Common.{◌≡◌, ◌+◌, ◌<◌, length, sym, ap, ap₂, ◌∙◌, zero-add, arith}
use Rattle.std.proofs.lemmas.List.{get_or_default}
use Rattle.algebra.specs.declared.sign.Sign.TheVariants.{Zero}
use Rattle.chooser.specs.BySigns.{differ, differ_at}
use Rattle.chooser.proofs.Tallies.{tally_le, tally_yes, tally_no, differ_is}
use Rattle.chooser.proofs.by_signs.changes_in.Goals as goal
use Rattle.chooser.proofs.by_signs.changes_in.Goals.{then-ne, else-ne}

pub overflow_add-found : goal.overflow_add-found
overflow_add-found c = record { fits = omega (arith, tally_le (differ_at c.args.block.now c.args.stride) 0 c.loop-k.k) }

pub loop-k-preserved : goal.loop-k-preserved
loop-k-preserved c =
    let block = c.args.block.now in
    let stride = c.args.stride in
    let k = c.loop-k.k in
    let here : k < length block = omega arith in
    let there : k + stride < length block = omega arith in
    let test : differ_at block stride (0 + k) ≡ c.ne.result =
    ap (differ_at block stride) (zero-add k) ∙ ap₂ differ (get_or_default block k Zero _ here) (get_or_default block (k + stride) Zero _ there) ∙ sym (differ_is _ _) ∙ sym c.ne.ensures in
    elim c.if-ne.branch [
      | then-ne w ↦ w.found-is ∙ tally_yes (differ_at block stride) 0 k c.loop-k.found c.loop-k.invariant (test ∙ w.if-ne.true)
      | else-ne w ↦ w.found-is ∙ tally_no (differ_at block stride) 0 k c.loop-k.found c.loop-k.invariant (test ∙ w.if-ne.false)
    ]
