use Rattle.std.proofs.Common.{eqb, ◌+◌, ◌∙◌, rules}
use Rattle.std.proofs.lemmas.Iterator.{YieldsList-from_slice}
use Rattle.std.proofs.lemmas.Iterator.Consumers.{YieldsList-at, YieldsList-from_enumerate}
use Rattle.ticket.specs.Faults.{fault}
use Rattle.ticket.specs.declared.fault.Refusal.TheVariants.{NotZero}
use Rattle.ticket.proofs.Tries.{tried, numbered}
use Rattle.ticket.proofs.fault.RecordNumber.zeros.Goals as goal

pub returns : goal.returns
returns c =
    tried (λ p. eqb p.1 0) (λ p. fault NotZero c.args.self.0 (c.args.byte + p.0)) _ _ _ _ _ c.try_for_each.ensures.ran
    (YieldsList-from_enumerate (YieldsList-at c.enumerate.ensures.source (YieldsList-from_slice c.args.rest.now cc)) c.enumerate.ensures.count)
    (λ x w q k. search rules)
    ∙ numbered (λ _ b. eqb b 0) (fault NotZero c.args.self.0) c.args.byte c.args.rest.now
