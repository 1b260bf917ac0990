use Rattle.std.proofs.Common.{◌≡◌, ◌+◌, sym, ap, ◌∙◌, zero-add, arith}
use Rattle.std.proofs.lemmas.List.{get_or_default}
use Rattle.algebra.specs.declared.sign.Sign.TheVariants.{Zero}
use Rattle.chooser.specs.BySigns.{is_negative, negative_at}
use Rattle.chooser.proofs.Tallies.{tally_le, tally_yes, tally_no, same_as_negative}
use Rattle.chooser.proofs.by_signs.negatives_in.Goals as goal
use Rattle.chooser.proofs.by_signs.negatives_in.Goals.{then-eq, else-eq}

pub overflow_add-found : goal.overflow_add-found
overflow_add-found c = record { fits = omega (arith, tally_le (negative_at c.args.row.now) 0 c.loop-sign.sign-index) }

pub loop-sign-preserved : goal.loop-sign-preserved
loop-sign-preserved c =
    let row = c.args.row.now in
    let k = c.loop-sign.sign-index in
    let test : negative_at row (0 + k) ≡ c.eq.result = ap (negative_at row) (zero-add k) ∙ ap is_negative (get_or_default row k Zero _ c.loop-sign-test.true) ∙ sym (same_as_negative _) ∙ sym c.eq.ensures in
    elim c.if-eq.branch [
      | then-eq w ↦ w.found-is ∙ tally_yes (negative_at row) 0 k c.loop-sign.found c.loop-sign.invariant (test ∙ w.if-eq.true)
      | else-eq w ↦ w.found-is ∙ tally_no (negative_at row) 0 k c.loop-sign.found c.loop-sign.invariant (test ∙ w.if-eq.false)
    ]
