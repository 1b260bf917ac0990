-- The answer that stands for a fault, and how it is printed.
use Rattle.std.specs.Prelude.{◌≡◌, ℕ, Bool, false, cond, ◌&&◌, List, ◌++◌, Some, None, Option, Ok, Err, codes, decimal, Result, nat_le}
use Rattle.readings.specs.Kinds.{drifts_of}
use Rattle.readings.specs.declared.answer.Answer.{Answer}
use Rattle.readings.specs.declared.answer.Answer.TheVariants.{Read, Sized, Refused, OtherLayer, OutOfMemory}
use Rattle.readings.specs.declared.answer.Place.{Place}
use Rattle.readings.specs.declared.kind.Kind.{Kind}
use Rattle.ticket.specs.Faults.{refusal_number, next}
use Rattle.ticket.specs.Reading.{reading}
use Rattle.ticket.specs.Sizes.{sizing}
use Rattle.ticket.specs.WellFormed.{Content}
use Rattle.ticket.specs.declared.fault.Fault.{Fault}
use Rattle.ticket.specs.declared.fault.Layer.{Layer}
use Rattle.ticket.specs.declared.fault.Layer.TheVariants.{Reader, Sizing, Workspace}

abbrev pub place_of : Fault → Place
place_of f = record { number = refusal_number f.refusal; «record» = f.«record»; byte = f.byte }

-- the reader gives the refusals 1 to 8, and sizing gives 9 to 11
abbrev pub is_given : Layer → ℕ → Bool
is_given Reader n = nat_le 1 n && nat_le n 8
is_given Sizing n = nat_le 9 n && nat_le n 11
is_given Workspace n = false

-- only refusals by the layer that gives them are in the table
abbrev pub answer_of : Fault → Answer
answer_of f = cond (is_given f.layer (refusal_number f.refusal)) (Refused (place_of f)) (OtherLayer (place_of f))

-- the answer where nothing is refused
abbrev pub accepted : Option Kind → Answer
accepted None = Read
accepted (Some k) = Sized

-- what is done with a ticket that is read: it is sized where a kind is named
abbrev pub after : Option Kind → Content → Result Content Fault
after None c = Ok c
after (Some k) c = sizing (drifts_of k) c

abbrev pub result_answer : Option Kind → Result Content Fault → Answer
result_answer t (Ok c) = accepted t
result_answer t (Err f) = answer_of f

-- the answer to a ticket that is read
abbrev pub ticket_answer : Option Kind → Content → Answer
ticket_answer t c = result_answer t (after t c)

-- the answer that the rules give: that of the reading, and of what is done then
abbrev pub trial_answer : Option Kind → List ℕ → Answer
trial_answer t bs = result_answer t (next (reading bs) (after t))

-- the answer to bytes is that of the rules, unless there is no memory for a ticket that is read
abbrev pub Told : Option Kind → List ℕ → Answer → Type 0
Told t bs Read = trial_answer t bs ≡ Read
Told t bs Sized = trial_answer t bs ≡ Sized
Told t bs (Refused p) = trial_answer t bs ≡ Refused p
Told t bs (OtherLayer p) = trial_answer t bs ≡ OtherLayer p
Told t bs OutOfMemory = trial_answer None bs ≡ Read

abbrev pub place_text : Place → List ℕ
place_text p = decimal p.number ++ (codes " " ++ (decimal p.«record» ++ (codes " " ++ decimal p.byte)))

abbrev pub answer_text : Answer → List ℕ
answer_text Read = codes "read"
answer_text Sized = codes "sized"
answer_text (Refused p) = place_text p
answer_text (OtherLayer p) = codes "by another layer: " ++ place_text p
answer_text OutOfMemory = codes "out of memory"
