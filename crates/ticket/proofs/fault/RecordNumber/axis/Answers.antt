use Rattle.std.proofs.Common.{Ok, ap, ◌∙◌, rules}
use lib.Signed.{lt_z}
use Rattle.ticket.specs.Numbers.{is_end, lower_flag, upper_flag}
use Rattle.ticket.specs.Reading.{axis_of}
use Rattle.ticket.specs.declared.records.Axis.{Axis}
use Rattle.ticket.proofs.Chains.{through, stops, exit, told, sent}
use Rattle.ticket.proofs.fault.RecordNumber.axis.Goals as goal

pub returns-in_err-check : goal.returns-in_err-check
unfolding axis_of
returns-in_err-check c = exit c.from_residual.ensures.1 (stops _ c.in_err-check.ensures)

pub returns-in_err-zeros : goal.returns-in_err-zeros
unfolding axis_of
returns-in_err-zeros c = exit c.from_residual-in_err-zeros.ensures.1 (through _ c.in_ok-check.ensures (stops _ c.in_err-zeros.ensures))

pub returns-in_err-check-2 : goal.returns-in_err-check-2
unfolding axis_of
returns-in_err-check-2 c =
    exit c.from_residual-in_err-check-2.ensures.1
    (through _ c.in_ok-check.ensures
    (through _ c.in_ok-zeros.ensures
    (stops _ (told _ c.is_degree.ensures c.in_err-check-2.ensures))))

pub returns-in_err-check-3 : goal.returns-in_err-check-3
unfolding axis_of
returns-in_err-check-3 c =
    exit c.from_residual-in_err-check-3.ensures.1
    (through _ c.in_ok-check.ensures
    (through _ c.in_ok-zeros.ensures
    (through _ (told _ c.is_degree.ensures c.in_ok-check-2.ensures)
    (stops _ (told _ (c.is_end.ensures ∙ ap is_end (sent {x = c.from_be_bytes-lower.result} (search rules) c.from_be_bytes-lower.ensures)) c.in_err-check-3.ensures)))))

pub returns-in_err-check-4 : goal.returns-in_err-check-4
unfolding axis_of
returns-in_err-check-4 c =
    exit c.from_residual-in_err-check-4.ensures.1
    (through _ c.in_ok-check.ensures
    (through _ c.in_ok-zeros.ensures
    (through _ (told _ c.is_degree.ensures c.in_ok-check-2.ensures)
    (through _ (told _ (c.is_end.ensures ∙ ap is_end (sent {x = c.from_be_bytes-lower.result} (search rules) c.from_be_bytes-lower.ensures)) c.in_ok-check-3.ensures)
    (stops _ (told _ (c.is_end-2.ensures ∙ ap is_end (sent {x = c.from_be_bytes-upper.result} (search rules) c.from_be_bytes-upper.ensures)) c.in_err-check-4.ensures))))))

pub returns-in_err-check-5 : goal.returns-in_err-check-5
unfolding axis_of
returns-in_err-check-5 c =
    exit c.from_residual-in_err-check-5.ensures.1
    (through _ c.in_ok-check.ensures
    (through _ c.in_ok-zeros.ensures
    (through _ (told _ c.is_degree.ensures c.in_ok-check-2.ensures)
    (through _ (told _ (c.is_end.ensures ∙ ap is_end (sent {x = c.from_be_bytes-lower.result} (search rules) c.from_be_bytes-lower.ensures)) c.in_ok-check-3.ensures)
    (through _ (told _ (c.is_end-2.ensures ∙ ap is_end (sent {x = c.from_be_bytes-upper.result} (search rules) c.from_be_bytes-upper.ensures)) c.in_ok-check-4.ensures)
    (stops _ (told _ (λ i. lt_z (sent {x = c.from_be_bytes-lower.result} (search rules) c.from_be_bytes-lower.ensures i) (sent {x = c.from_be_bytes-upper.result} (search rules) c.from_be_bytes-upper.ensures i)) c.in_err-check-5.ensures)))))))

pub returns : goal.returns
unfolding axis_of
returns c =
    through _ c.in_ok-check.ensures
    (through _ c.in_ok-zeros.ensures
    (through _ (told _ c.is_degree.ensures c.in_ok-check-2.ensures)
    (through _ (told _ (c.is_end.ensures ∙ ap is_end (sent {x = c.from_be_bytes-lower.result} (search rules) c.from_be_bytes-lower.ensures)) c.in_ok-check-3.ensures)
    (through _ (told _ (c.is_end-2.ensures ∙ ap is_end (sent {x = c.from_be_bytes-upper.result} (search rules) c.from_be_bytes-upper.ensures)) c.in_ok-check-4.ensures)
    (through _ (told _ (λ i. lt_z (sent {x = c.from_be_bytes-lower.result} (search rules) c.from_be_bytes-lower.ensures i) (sent {x = c.from_be_bytes-upper.result} (search rules) c.from_be_bytes-upper.ensures i)) c.in_ok-check-5.ensures)
    (λ i. Ok (let a : Axis = record {
      degree = c.args.degree;
      lower = sent {x = c.from_be_bytes-lower.result} (search rules) c.from_be_bytes-lower.ensures i;
      upper = sent {x = c.from_be_bytes-upper.result} (search rules) c.from_be_bytes-upper.ensures i;
      lower_open = lower_flag c.args.ends;
      upper_open = upper_flag c.args.ends;
    } in a)))))))
