use Rattle.std.proofs.Common.{◌≡◌, vec_items}
use Rattle.ticket.specs.Sizes.{patch_count, scale, value_size, drift_size}
use Rattle.ticket.proofs.BelowCap.{patch_is, scale_is, value_is, drift_is}
use Rattle.ticket.proofs.sized_ticket.SizedTicket.sizes.Goals as goal

pub returns : goal.returns
returns c =
    let s = c.args.self.now in
    let axes = vec_items s.ticket.axes in
    let terms = vec_items s.ticket.terms in
    let patch : c.patch_count.result ≡ patch_count axes = patch_is axes _ s.few c.patch_count.ensures in
    let factor : c.scale.result ≡ scale axes = scale_is axes terms _ _ s.ticket.formed c.scale.ensures in
    let value : c.value_size-value.result ≡ value_size axes terms = value_is axes terms _ s.small c.value_size-value.ensures in
    let drift : c.drift_size-drift.result ≡ drift_size axes terms = drift_is axes terms _ s.small c.drift_size-drift.ensures in
    λ i. record { patch = patch i; scale = factor i; value = value i; drift = drift i }
