use Rattle.std.proofs.Common.{◌≡◌, get_or, Err, refl, ap, ◌∙◌, rules}
use Rattle.std.proofs.lemmas.Result.{IfOk-from_err}
use Rattle.ticket.specs.Reading.{record_of, axis_record, term_record, question_record}
use Rattle.ticket.proofs.Chains.{through, stops, exit, told, passed}
use Rattle.ticket.proofs.ByKind.{is_axis, is_term, is_question, is_other, axis_rest, question_rest, none_told}
use Rattle.ticket.proofs.reading.take_record.Goals as goal

pub returns-in_err-check : goal.returns-in_err-check
unfolding record_of
returns-in_err-check c = record {
  value = exit c.from_residual.ensures.1 (stops _ (told _ (none_told _ _ c.is_none.ensures) c.in_err-check.ensures));
  room = IfOk-from_err _ _ c.from_residual.ensures.0;
}

pub returns-in_err-check-in-1 : goal.returns-in_err-check-in-1
unfolding record_of axis_record
returns-in_err-check-in-1 c =
    let kind : get_or c.args.bytes.now 0 0 ≡ 1 = search rules in
    record {
      value = exit c.from_residual-in_err-check-in-1.ensures.1
          (through _ (told _ (none_told _ _ c.is_none.ensures) c.in_ok-check.ensures)
          (is_axis _ _ _ _ kind
          (stops _ (told _ c.takes_axis.ensures.value c.in_err-check-in-1.ensures))));
      room = IfOk-from_err _ _ c.from_residual-in_err-check-in-1.ensures.0;
    }

pub returns-in_err-axis-in-1 : goal.returns-in_err-axis-in-1
unfolding record_of axis_record
returns-in_err-axis-in-1 c =
    let kind : get_or c.args.bytes.now 0 0 ≡ 1 = search rules in
    record {
      value = exit c.from_residual-in_err-axis-in-1.ensures.1
          (through _ (told _ (none_told _ _ c.is_none.ensures) c.in_ok-check.ensures)
          (is_axis _ _ _ _ kind
          (through _ (told _ c.takes_axis.ensures.value c.in_ok-check-in-1.ensures)
          (stops _ (axis_rest c.args.bytes.now _ _ _ _ _ c.requires c.in_err-axis-in-1.ensures)))));
      room = IfOk-from_err _ _ c.from_residual-in_err-axis-in-1.ensures.0;
    }

pub returns-in_ok-axis-in-1 : goal.returns-in_ok-axis-in-1
unfolding record_of axis_record
returns-in_ok-axis-in-1 c =
    let kind : get_or c.args.bytes.now 0 0 ≡ 1 = search rules in
    record {
      value = through _ (told _ (none_told _ _ c.is_none.ensures) c.in_ok-check.ensures)
          (is_axis _ _ _ _ kind
          (through _ (told _ c.takes_axis.ensures.value c.in_ok-check-in-1.ensures)
          (through _ (axis_rest c.args.bytes.now _ _ _ _ _ c.requires c.in_ok-axis-in-1.ensures) refl)));
      room = c.takes_axis.ensures.room (passed _ _ _ c.in_ok-check-in-1.ensures);
    }

pub returns-in_err-check-in-2 : goal.returns-in_err-check-in-2
unfolding record_of term_record
returns-in_err-check-in-2 c =
    let kind : get_or c.args.bytes.now 0 0 ≡ 2 = search rules in
    record {
      value = exit c.from_residual-in_err-check-in-2.ensures.1
          (through _ (told _ (none_told _ _ c.is_none.ensures) c.in_ok-check.ensures)
          (is_term _ _ _ _ kind
          (stops _ (told _ c.takes_term.ensures.value c.in_err-check-in-2.ensures))));
      room = IfOk-from_err _ _ c.from_residual-in_err-check-in-2.ensures.0;
    }

pub returns-in_err-term-in-2 : goal.returns-in_err-term-in-2
unfolding record_of term_record
returns-in_err-term-in-2 c =
    let kind : get_or c.args.bytes.now 0 0 ≡ 2 = search rules in
    record {
      value = exit c.from_residual-in_err-term-in-2.ensures.1
          (through _ (told _ (none_told _ _ c.is_none.ensures) c.in_ok-check.ensures)
          (is_term _ _ _ _ kind
          (through _ (told _ c.takes_term.ensures.value c.in_ok-check-in-2.ensures)
          (stops _ c.in_err-term-in-2.ensures))));
      room = IfOk-from_err _ _ c.from_residual-in_err-term-in-2.ensures.0;
    }

pub returns-in_ok-term-in-2 : goal.returns-in_ok-term-in-2
unfolding record_of term_record
returns-in_ok-term-in-2 c =
    let kind : get_or c.args.bytes.now 0 0 ≡ 2 = search rules in
    record {
      value = through _ (told _ (none_told _ _ c.is_none.ensures) c.in_ok-check.ensures)
          (is_term _ _ _ _ kind
          (through _ (told _ c.takes_term.ensures.value c.in_ok-check-in-2.ensures)
          (through _ c.in_ok-term-in-2.ensures refl)));
      room = c.takes_term.ensures.room (passed _ _ _ c.in_ok-check-in-2.ensures);
    }

pub returns-in_err-check-in-3 : goal.returns-in_err-check-in-3
unfolding record_of question_record
returns-in_err-check-in-3 c =
    let kind : get_or c.args.bytes.now 0 0 ≡ 3 = search rules in
    record {
      value = exit c.from_residual-in_err-check-in-3.ensures.1
          (through _ (told _ (none_told _ _ c.is_none.ensures) c.in_ok-check.ensures)
          (is_question _ _ _ _ kind
          (stops _ (told _ c.takes_question.ensures c.in_err-check-in-3.ensures))));
      room = IfOk-from_err _ _ c.from_residual-in_err-check-in-3.ensures.0;
    }

pub returns-in_err-question-in-3 : goal.returns-in_err-question-in-3
unfolding record_of question_record
returns-in_err-question-in-3 c =
    let kind : get_or c.args.bytes.now 0 0 ≡ 3 = search rules in
    record {
      value = exit c.from_residual-in_err-question-in-3.ensures.1
          (through _ (told _ (none_told _ _ c.is_none.ensures) c.in_ok-check.ensures)
          (is_question _ _ _ _ kind
          (through _ (told _ c.takes_question.ensures c.in_ok-check-in-3.ensures)
          (stops _ (question_rest c.args.bytes.now 3 _ _ _ c.in_err-question-in-3.ensures)))));
      room = IfOk-from_err _ _ c.from_residual-in_err-question-in-3.ensures.0;
    }

pub returns-in_ok-question-in-3 : goal.returns-in_ok-question-in-3
unfolding record_of question_record
returns-in_ok-question-in-3 c =
    let kind : get_or c.args.bytes.now 0 0 ≡ 3 = search rules in
    record {
      value = through _ (told _ (none_told _ _ c.is_none.ensures) c.in_ok-check.ensures)
          (is_question _ _ _ _ kind
          (through _ (told _ c.takes_question.ensures c.in_ok-check-in-3.ensures)
          (through _ (question_rest c.args.bytes.now 3 _ _ _ c.in_ok-question-in-3.ensures) refl)));
      room = tt;
    }

pub returns-in_default : goal.returns-in_default
unfolding record_of
returns-in_default c =
    let no_axis : get_or c.args.bytes.now 0 0 ≡ 1 → ⊥ = search rules in
    let no_term : get_or c.args.bytes.now 0 0 ≡ 2 → ⊥ = search rules in
    let no_question : get_or c.args.bytes.now 0 0 ≡ 3 → ⊥ = search rules in
    record {
      value = ap Err c.fault.ensures ∙ through _ (told _ (none_told _ _ c.is_none.ensures) c.in_ok-check.ensures) (is_other _ _ _ _ (get_or c.args.bytes.now 0 0) no_axis no_term no_question);
      room = tt;
    }
