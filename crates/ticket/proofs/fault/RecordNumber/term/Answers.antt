use Rattle.std.proofs.Common.{Ok, rules}
use Rattle.ticket.specs.Reading.{term_of}
use Rattle.ticket.specs.declared.records.Term.{Term}
use Rattle.ticket.proofs.Chains.{through, stops, exit, sent}
use Rattle.ticket.proofs.fault.RecordNumber.term.Goals as goal

pub returns-in_err-zeros : goal.returns-in_err-zeros
unfolding term_of
returns-in_err-zeros c = exit c.from_residual.ensures.1 (stops _ c.in_err-zeros.ensures)

pub returns-in_err-exponents : goal.returns-in_err-exponents
unfolding term_of
returns-in_err-exponents c =
    exit c.from_residual-in_err-exponents.ensures.1
    (through _ c.in_ok-zeros.ensures
    (stops _ c.in_err-exponents.ensures))

pub returns : goal.returns
unfolding term_of
returns c =
    through _ c.in_ok-zeros.ensures
    (through _ c.in_ok-exponents.ensures
    (λ i. Ok (let t : Term = record {
      exponents = c.args.powers;
      coefficient = sent {x = c.from_be_bytes-coefficient.result} (search rules) c.from_be_bytes-coefficient.ensures i;
      drift = sent {x = c.from_be_bytes-drift.result} (search rules) c.from_be_bytes-drift.ensures i;
    } in t)))
