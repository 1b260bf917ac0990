use Rattle.std.proofs.Common.{◌+◌, ◌∙◌, rules}
use Rattle.std.proofs.lemmas.Iterator.{YieldsList-from_slice}
use Rattle.std.proofs.lemmas.Iterator.Consumers.{YieldsList-at, YieldsList-from_enumerate}
use Rattle.number.specs.Limits.{carries}
use Rattle.ticket.specs.Faults.{fault}
use Rattle.ticket.specs.Sizes.{drifts_carried}
use Rattle.ticket.specs.declared.fault.Refusal.TheVariants.{Drift}
use Rattle.ticket.proofs.Tries.{tried, numbered}
use Rattle.ticket.proofs.ticket.Ticket.check_drifts.Goals as goal

pub returns : goal.returns
returns c =
    let terms = c.args.self.now.terms.items in
    tried (λ p. carries c.args.drifts p.1.drift) (λ p. fault Drift (c.len-first.result + p.0) 12) _ _ _ _ _ c.try_for_each.ensures.ran
    (YieldsList-from_enumerate (YieldsList-at c.enumerate.ensures.source (YieldsList-from_slice terms cc)) c.enumerate.ensures.count)
    (λ x w q k. search rules)
    ∙ numbered (λ _ t. carries c.args.drifts t.drift) (λ k. fault Drift k 12) c.len-first.result terms
    ∙ (λ i. drifts_carried c.args.drifts ((c.len-first.ensures ∙ c.args.self.now.axes.ok.0) i) terms)
