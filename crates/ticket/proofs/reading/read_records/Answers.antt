use Rattle.std.proofs.Common.{◌+◌, ◌-◌, ◌/◌, length, Err, sym, refl, ap, ◌∙◌}
use Rattle.std.proofs.lemmas.Result.{IfOk-from_err}
use Rattle.ticket.specs.Drafts.{seen, drafted}
use Rattle.ticket.specs.Faults.{fault}
use Rattle.ticket.specs.Reading.{reading, finished}
use Rattle.ticket.specs.declared.fault.Refusal.TheVariants.{Turn}
use Rattle.ticket.proofs.Chains.{exit_as, through, stops, told}
use Rattle.ticket.proofs.Turns.{each_read, left, apart, left_more, left_none}
use Rattle.ticket.proofs.reading.read_records.Goals as goal

pub returns-in_err-check : goal.returns-in_err-check
unfolding reading
returns-in_err-check c = record {
  value = exit_as drafted (λ _. refl) _ c.from_residual.ensures.1 (stops _ (told _ c.is_length.ensures c.in_err-check.ensures));
  bytes = IfOk-from_err _ _ c.from_residual.ensures.0;
}

pub loop-at-init : goal.loop-at-init
loop-at-init c = ap (λ s. each_read 0 s c.as_chunks.result.0.now) (sym c.new-draft.ensures)

pub returns-in_err-record : goal.returns-in_err-record
unfolding reading
returns-in_err-record c = record {
  value = exit_as drafted (λ _. refl) _ c.from_residual-in_err-record.ensures.1
      (through _ (told _ c.is_length.ensures c.in_ok-check.ensures)
      (stops _ (
      stops _ c.in_err-record.ensures.value
      ∙ sym (left_more c.loop-at.at (seen c.loop-at.draft) c.as_chunks.result.0.now _ c.loop-at-test.true)
      ∙ sym c.loop-at.invariant
      ∙ sym (apart _ _ _ _ c.as_chunks.ensures.front))));
  bytes = IfOk-from_err _ _ c.from_residual-in_err-record.ensures.0;
}

pub loop-at-preserved : goal.loop-at-preserved
loop-at-preserved c =
    c.loop-at.invariant
    ∙ left_more c.loop-at.at (seen c.loop-at.draft) c.as_chunks.result.0.now _ c.loop-at-test.true
    ∙ sym (through _ c.in_ok-record.ensures.value refl)
    ∙ ap (λ s. left (c.loop-at.at + 1) s c.as_chunks.result.0.now) (sym c.add.ensures)

pub returns-clause-value : goal.returns-clause-value
unfolding reading
returns-clause-value c =
    through _ (told _ c.is_length.ensures c.in_ok-check.ensures)
    (through _ (left_none _ _ _ c.loop-at-test.false ∙ sym c.loop-at.invariant ∙ sym (apart _ _ _ _ c.as_chunks.ensures.front))
    (ap (λ q. finished q (seen c.loop-at.draft) (length c.args.bytes.now / 16)) (sym c.in-Some.is)))

pub returns-in_default-clause-value : goal.returns-in_default-clause-value
unfolding reading
returns-in_default-clause-value c =
    ap Err (c.fault.ensures ∙ ap (λ n. fault Turn (n - 1) 0) c.as_chunks.ensures.front_len)
    ∙ through _ (told _ c.is_length.ensures c.in_ok-check.ensures)
    (through _ (left_none _ _ _ c.loop-at-test.false ∙ sym c.loop-at.invariant ∙ sym (apart _ _ _ _ c.as_chunks.ensures.front))
    (ap (λ q. finished q (seen c.loop-at.draft) (length c.args.bytes.now / 16)) (sym c.in_default.is)))
