-- A ticket is read exactly if the bytes are the encoding of a well-formed one.
use Rattle.std.proofs.Common.{◌≡◌, ℕ, List, IsErrAnd, Ok, Err, Result, sym, ap, ◌∙◌, subst}
use Rattle.std.proofs.lemmas.Result.{err_from_is_err_and}
use Rattle.ticket.specs.Drafts.{seen}
use Rattle.ticket.specs.Law.{Answers, Encodes, Exactly, Unambiguous}
use Rattle.ticket.specs.Numbers.{Bytes}
use Rattle.ticket.specs.Reading.{ticket_of, reading}
use Rattle.ticket.specs.WellFormed.{Content}
use Rattle.ticket.specs.declared.draft.Draft.{Draft}
use Rattle.ticket.specs.declared.failure.Failure.{Failure}
use Rattle.ticket.specs.declared.failure.Failure.TheVariants.{Refused, OutOfMemory}
use Rattle.ticket.specs.declared.fault.Fault.{Fault}
use Rattle.ticket.specs.declared.records.Axis.{Axis}
use Rattle.ticket.specs.declared.records.Question.{Question}
use Rattle.ticket.specs.declared.records.Term.{Term}
use Rattle.ticket.specs.declared.ticket.Ticket.{Ticket}
use Rattle.ticket.proofs.Complete.{complete}
use Rattle.ticket.proofs.Sound.{sound}

pub encoding_read : (c : Content) (bs : List ℕ) → Encodes c bs → reading bs ≡ Ok c
encoding_read c bs e = ap reading e.same ∙ complete c e.formed

pub unambiguous : Unambiguous
unambiguous c d bs e f = let p = encoding_read c bs e in let q = encoding_read d bs f in cc

-- what a call owes of its answer r to the bytes bs
pub record Owed (bs : List ℕ) (r : Result Ticket Failure) : Type 0 where
  pub answer : Answers bs r
  pub exactly : Exactly bs r

refusing : (bs : List ℕ) (f : Fault) → reading bs ≡ Err f → Owed bs (Err (Refused f))
refusing bs f h = record { answer = h; exactly = λ c e. let p = encoding_read c bs e in cc }

-- the exit of a `?` at a fault
pub refused : (bs : List ℕ) {f : Fault} (r : Result Ticket Failure) → IsErrAnd r (λ y. y ≡ Refused f) → Err f ≡ reading bs → Owed bs r
refused bs {f} r h e =
    let p = err_from_is_err_and r h in
    subst (Owed bs) (sym (p.1 ∙ ap Err p.2)) (refusing bs f (sym e))

-- the exit of a `?` at want of memory
pub starved : (bs : List ℕ) {c : Content} (r : Result Ticket Failure) → IsErrAnd r (λ y. y ≡ OutOfMemory) → Bytes bs → Ok c ≡ reading bs → Owed bs r
starved bs {c} r h small e =
    let p = err_from_is_err_and r h in
    let owed : Owed bs (Err OutOfMemory) = record { answer = (c, sym e); exactly = (c, sound bs c small (sym e)) } in
    subst (Owed bs) (sym (p.1 ∙ ap Err p.2)) owed

-- the lists that were taken of a draft are what it saw
pub built : (bs : List ℕ) (d : Draft) (q : Question) (axes : List Axis) (terms : List Term) → Ok (ticket_of (seen d) q) ≡ reading bs → axes ≡ d.axes.items → terms ≡ d.terms.items → reading bs ≡ Ok (record { axes = axes; terms = terms; relation = q.relation; depth = q.depth })
built bs d q axes terms h a t =
    sym h ∙ (λ i. Ok (let c : Content = record { axes = sym a i; terms = sym t i; relation = q.relation; depth = q.depth } in c))
