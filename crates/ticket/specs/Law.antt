-- What reading promises.
use Rattle.std.specs.Prelude.{◌≡◌, ℕ, ◌-◌, List, take, drop, Ok, Err, vec_items, Result}
use Rattle.ticket.specs.Encoding.{encoded}
use Rattle.ticket.specs.Reading.{reading}
use Rattle.ticket.specs.WellFormed.{Content, Formed}
use Rattle.ticket.specs.declared.failure.Failure.{Failure}
use Rattle.ticket.specs.declared.failure.Failure.TheVariants.{Refused, OutOfMemory}
use Rattle.ticket.specs.declared.ticket.Ticket.{Ticket}
use Rattle.ticket.specs.declared.reader.Reader.{Reader}

abbrev pub content : Ticket → Content
content t = record { axes = vec_items t.axes; terms = vec_items t.terms; relation = t.relation; depth = t.depth }

-- the bytes of the ticket that a reader is at
abbrev pub lent : Reader → List ℕ
lent r = take (r.end - r.origin) (drop r.origin r.bytes.now)

-- The answer to bytes is what is read of them. Memory can be wanting for nothing but a ticket that would have been read: no fault hides behind it.
abbrev pub Answers : List ℕ → Result Ticket Failure → Type 0
Answers bs (Ok t) = reading bs ≡ Ok (content t)
Answers bs (Err (Refused f)) = reading bs ≡ Err f
Answers bs (Err OutOfMemory) = (c : Content) × (reading bs ≡ Ok c)

-- The bytes are those of a well-formed ticket.
pub record Encodes (c : Content) (bs : List ℕ) : Type 0 where
  pub formed : Formed c
  pub same : bs ≡ encoded c

-- A ticket is read exactly if the bytes are the encoding of a well-formed ticket, and then it is that ticket.
abbrev pub Exactly : List ℕ → Result Ticket Failure → Type 0
Exactly bs (Ok t) = Encodes (content t) bs
Exactly bs (Err (Refused f)) = (c : Content) → Encodes c bs → ⊥
Exactly bs (Err OutOfMemory) = (c : Content) × Encodes c bs

-- Two different well-formed tickets never share bytes.
abbrev pub Unambiguous : Type 0
Unambiguous = (c d : Content) (bs : List ℕ) → Encodes c bs → Encodes d bs → c ≡ d
