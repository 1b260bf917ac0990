-- What a draft has seen of its ticket.
use Rattle.std.specs.Prelude.{◌<◌, Ok, Err, Result}
use Rattle.arrayvec.specs.ArrayVec.{array_vec_len}
use Rattle.ticket.specs.Reading.{Seen, ticket_of}
use Rattle.ticket.specs.WellFormed.{Content}
use Rattle.ticket.specs.declared.fault.Fault.{Fault}
use Rattle.ticket.specs.declared.records.Question.{Question}
use Rattle.ticket.specs.declared.draft.Draft.{Draft}
use Rattle.ticket.specs.declared.records.Record.{Record}
use Rattle.ticket.specs.declared.records.Record.TheVariants.{Axis as IsAxis, Term as IsTerm, Question as IsQuestion}

abbrev pub seen : Draft → Seen
seen d = record { axes = d.axes.items; terms = d.terms.items; question = d.question }

-- the draft has room for the record
abbrev pub Room : Record → Draft → Type 0
Room (IsAxis a) d = array_vec_len d.axes < 4
Room (IsTerm t) d = array_vec_len d.terms < 128
Room (IsQuestion q) d = Unit {0}

-- the ticket of a draft and the question at its end
abbrev pub drafted : Result (Draft × Question) Fault → Result Content Fault
drafted (Ok p) = Ok (ticket_of (seen p.0) p.1)
drafted (Err f) = Err f
