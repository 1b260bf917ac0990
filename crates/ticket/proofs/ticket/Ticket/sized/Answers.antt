use Rattle.std.proofs.Common.{refl}
use Rattle.ticket.specs.SizedLaw.{sized_content}
use Rattle.ticket.specs.Sizes.{sizing}
use Rattle.ticket.proofs.Chains.{exit_as, through, stops, told}
use Rattle.ticket.proofs.ticket.Ticket.sized.Goals as goal

pub returns-in_err-check : goal.returns-in_err-check
unfolding sizing
returns-in_err-check c =
    exit_as sized_content (λ _. refl) _ c.from_residual.ensures.1
    (stops _ (told _ c.is_patch.ensures c.in_err-check.ensures))

pub returns-in_err-check-2 : goal.returns-in_err-check-2
unfolding sizing
returns-in_err-check-2 c =
    exit_as sized_content (λ _. refl) _ c.from_residual-in_err-check-2.ensures.1
    (through _ (told _ c.is_patch.ensures c.in_ok-check.ensures)
    (stops _ (told _ c.is_sized.ensures c.in_err-check-2.ensures)))

pub returns-in_err-check_drifts : goal.returns-in_err-check_drifts
unfolding sizing
returns-in_err-check_drifts c =
    exit_as sized_content (λ _. refl) _ c.from_residual-in_err-check_drifts.ensures.1
    (through _ (told _ c.is_patch.ensures c.in_ok-check.ensures)
    (through _ (told _ c.is_sized.ensures c.in_ok-check-2.ensures)
    (stops _ c.in_err-check_drifts.ensures)))

pub returns : goal.returns
unfolding sizing
returns c =
    through _ (told _ c.is_patch.ensures c.in_ok-check.ensures)
    (through _ (told _ c.is_sized.ensures c.in_ok-check-2.ensures)
    (through _ c.in_ok-check_drifts.ensures refl))
