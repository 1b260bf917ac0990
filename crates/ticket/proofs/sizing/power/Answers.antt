use Rattle.std.proofs.Common.{◌≡◌, ◌*◌, replicate, fold, ◌∙◌, rules}
use Rattle.std.proofs.iter.runs.Made.{chains}
use Rattle.ticket.specs.Capped.{capped}
use Rattle.ticket.proofs.Caps.{power_fold}
use Rattle.ticket.proofs.sizing.power.Goals as goal

pub returns : goal.returns
returns c =
    let folded : c.fold.result ≡ fold (λ p y. capped (p * y)) 1 (replicate c.args.exponent c.args.base) = search (rules, chains) in
    folded ∙ power_fold _ _
