use Rattle.std.proofs.Common.{ℕ, ◌+◌, ◌-◌, leb, ◌∙◌, rules}
use Rattle.std.specs.List.{enumerate_from}
use Rattle.std.proofs.lemmas.Iterator.{YieldsList-from_slice}
use Rattle.std.proofs.lemmas.Iterator.Consumers.{YieldsList-at, YieldsList-from_enumerate}
use Rattle.ticket.specs.Drafts.{seen}
use Rattle.ticket.specs.Faults.{fault}
use Rattle.ticket.specs.WellFormed.{degree_at}
use Rattle.ticket.specs.declared.fault.Refusal.TheVariants.{Exponent}
use Rattle.ticket.proofs.Degrees.{of_byte}
use Rattle.ticket.proofs.Tries.{all_checked, tried, numbered}
use Rattle.ticket.proofs.fault.RecordNumber.exponents.Goals as goal

pub returns : goal.returns
returns c =
    let axes = (seen c.args.draft.now).axes in
    tried (λ p. leb p.1 (degree_at axes p.0)) (λ p. fault Exponent c.args.self.0 (1 + p.0)) _ _ _ _ _ c.try_for_each.ensures.ran
    (YieldsList-from_enumerate (YieldsList-at c.enumerate.ensures.source (YieldsList-from_slice c.args.powers.now cc)) c.enumerate.ensures.count)
    (λ x w q k. search rules)
    ∙ (λ i. all_checked (λ (p : ℕ × ℕ). leb p.1 (degree_at axes (of_byte p.0 i))) (λ p. fault Exponent c.args.self.0 (1 + p.0)) (enumerate_from 0 c.args.powers.now))
    ∙ numbered (λ b e. leb e (degree_at axes (b - 1))) (fault Exponent c.args.self.0) 1 c.args.powers.now
