use Rattle.std.proofs.Common.{◌∙◌}
use Rattle.ticket.specs.Law.{lent}
use Rattle.ticket.proofs.Exact.{refused, starved, built, unambiguous}
use Rattle.ticket.proofs.Sound.{sound}
use Rattle.ticket.proofs.reader.Reader.ticket.Goals as goal

pub returns-in_err-draft : goal.returns-in_err-draft
returns-in_err-draft c =
    let owed = refused (lent c.args.self.now) c.from_residual.result c.from_residual.ensures.1 c.in_err-draft.ensures.value in
    record { answer = owed.answer; exactly = owed.exactly; unambiguous = unambiguous }

pub returns-in_err-axes : goal.returns-in_err-axes
returns-in_err-axes c =
    let read = c.in_ok-draft.ensures in
    let owed = starved (lent c.args.self.now) c.from_residual-in_err-axes.result c.from_residual-in_err-axes.ensures.1 read.bytes read.value in
    record { answer = owed.answer; exactly = owed.exactly; unambiguous = unambiguous }

pub returns-in_err-terms : goal.returns-in_err-terms
returns-in_err-terms c =
    let read = c.in_ok-draft.ensures in
    let owed = starved (lent c.args.self.now) c.from_residual-in_err-terms.result c.from_residual-in_err-terms.ensures.1 read.bytes read.value in
    record { answer = owed.answer; exactly = owed.exactly; unambiguous = unambiguous }

pub invariant_of-result : goal.invariant_of-result
invariant_of-result c =
    let read = c.in_ok-draft.ensures in
    let is = built (lent c.args.self.now) c.in_ok-draft.draft c.in_ok-draft.question _ _ read.value (c.in_ok-axes.ensures.items ∙ c.deref.ensures.0) (c.in_ok-terms.ensures.items ∙ c.deref-2.ensures.0) in
    record { formed = (sound (lent c.args.self.now) _ read.bytes is).formed }

pub returns : goal.returns
returns c =
    let read = c.in_ok-draft.ensures in
    let is = built (lent c.args.self.now) c.in_ok-draft.draft c.in_ok-draft.question _ _ read.value (c.in_ok-axes.ensures.items ∙ c.deref.ensures.0) (c.in_ok-terms.ensures.items ∙ c.deref-2.ensures.0) in
    record { answer = is; exactly = sound (lent c.args.self.now) _ read.bytes is; unambiguous = unambiguous }
