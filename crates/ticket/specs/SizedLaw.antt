-- What sizing answers.
use Rattle.std.specs.Prelude.{Ok, Err, Result}
use Rattle.ticket.specs.Law.{content}
use Rattle.ticket.specs.WellFormed.{Content}
use Rattle.ticket.specs.Sizes.{patch_count, scale, value_size, drift_size}
use Rattle.ticket.specs.declared.fault.Fault.{Fault}
use Rattle.ticket.specs.declared.sized_ticket.SizedTicket.{SizedTicket}
use Rattle.ticket.specs.declared.sizes.Sizes.{Sizes}

-- what a sized ticket says, or its fault
abbrev pub sized_content : Result SizedTicket Fault → Result Content Fault
sized_content (Ok s) = Ok (content s.ticket)
sized_content (Err f) = Err f

-- the number of numbers, the factor and both sizes of a ticket
abbrev pub sizes_of : Content → Sizes
sizes_of c = record { patch = patch_count c.axes; scale = scale c.axes; value = value_size c.axes c.terms; drift = drift_size c.axes c.terms }
