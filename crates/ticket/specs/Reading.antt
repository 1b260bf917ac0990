-- What is read of any bytes: a ticket, or the first fault in the order of the rules. Records come in file order; within a record the lower refusal comes first, then the lower byte.
use Rattle.std.specs.Prelude.{ℕ, zero, suc, ◌+◌, ◌-◌, ◌/◌, ◌%◌, Bool, cond, not, ◌&&◌, leb, List, [], ◌∷◌, ◌++◌, length, take, drop, is_some, Some, None, Ok, Err, Option, Result, ◌==◌, bit_and, int_lt, nat_eq, nat_le, nat_lt, slice_index}
use Rattle.ticket.specs.Faults.{fault, checked, next, each_checked}
use Rattle.ticket.specs.Numbers.{is_degree, is_end, is_depth, whole, lower_flag, upper_flag, relation_of}
use Rattle.ticket.specs.WellFormed.{Content, degree_at}
use Rattle.ticket.specs.declared.fault.Fault.{Fault}
use Rattle.ticket.specs.declared.fault.Refusal.TheVariants.{Length, Turn, NotZero, Degree, End, Exponent, Relation as NoRelation, Depth}
use Rattle.ticket.specs.declared.records.Axis.{Axis}
use Rattle.ticket.specs.declared.records.Term.{Term}
use Rattle.ticket.specs.declared.records.Question.{Question}
use Rattle.ticket.specs.declared.records.Record.{Record}
use Rattle.ticket.specs.declared.records.Record.TheVariants.{Axis as IsAxis, Term as IsTerm, Question as IsQuestion}

-- ---- one record: n is its number, and each part of it is named by its bytes
abbrev pub zeros : ℕ → ℕ → List ℕ → Result (Unit {0}) Fault
zeros n b xs = each_checked (λ _ x. nat_eq x 0) (fault NotZero n) b xs

-- the exponent in byte b is that of axis b - 1
abbrev pub exponents : List Axis → ℕ → List ℕ → Result (Unit {0}) Fault
exponents axes n es = each_checked (λ b e. leb e (degree_at axes (b - 1))) (fault Exponent n) 1 es

-- degree in byte 2, flags in byte 3, ends in bytes 4 and 8, zeros from byte 12
unfoldable pub axis_of : ℕ → ℕ → ℕ → List ℕ → List ℕ → List ℕ → Result Axis Fault
axis_of n degree ends lower upper rest =
    next (checked (bit_and ends 252 == 0) (fault NotZero n 3)) λ _.
    next (zeros n 12 rest) λ _.
    next (checked (is_degree degree) (fault Degree n 2)) λ _.
    next (checked (is_end (whole lower)) (fault End n 4)) λ _.
    next (checked (is_end (whole upper)) (fault End n 8)) λ _.
    next (checked (int_lt (whole lower) (whole upper)) (fault End n 8)) λ _.
    Ok (record { degree = degree; lower = whole lower; upper = whole upper; lower_open = lower_flag ends; upper_open = upper_flag ends })

-- exponents in bytes 1 to 4, zeros in bytes 5 to 7, coefficient and drift
unfoldable pub term_of : List Axis → ℕ → List ℕ → List ℕ → List ℕ → List ℕ → Result Term Fault
term_of axes n es blank coefficient drift =
    next (zeros n 5 blank) λ _.
    next (exponents axes n es) λ _.
    Ok (record { exponents = es; coefficient = whole coefficient; drift = whole drift })

abbrev pub known : {X : Type 0} → Option X → Fault → Result X Fault
known (Some x) f = Ok x
known None f = Err f

-- relation in byte 1, depth in byte 2, zeros from byte 3
unfoldable pub question_of : ℕ → ℕ → ℕ → List ℕ → Result Question Fault
question_of n relation depth rest =
    next (zeros n 3 rest) λ _.
    next (known (relation_of relation) (fault NoRelation n 1)) λ asked.
    next (checked (is_depth depth) (fault Depth n 2)) λ _.
    Ok (record { relation = asked; depth = depth })

-- ---- the records in turn
-- what was read so far
pub record Seen : Type 0 where
  pub axes : List Axis
  pub terms : List Term
  pub question : Option Question

abbrev pub nothing : Seen
nothing = record { axes = []; terms = []; question = None }

abbrev pub added : Record → Seen → Seen
added (IsAxis a) s = record { axes = s.axes ++ a ∷ []; terms = s.terms; question = s.question }
added (IsTerm t) s = record { axes = s.axes; terms = s.terms ++ t ∷ []; question = s.question }
added (IsQuestion q) s = record { axes = s.axes; terms = s.terms; question = Some q }

-- an axis comes before all terms, has the next number, and is one of at most four
abbrev pub axis_in_turn : Seen → ℕ → Bool
axis_in_turn s number = length s.terms == 0 && (number == length s.axes && nat_lt (length s.axes) 4)

-- a term comes after an axis, and is one of at most 128
abbrev pub term_in_turn : Seen → Bool
term_in_turn s = nat_lt 0 (length s.axes) && nat_lt (length s.terms) 128

-- a question comes after an axis
abbrev pub question_in_turn : Seen → Bool
question_in_turn s = nat_lt 0 (length s.axes)

abbrev pub four : List ℕ → ℕ → List ℕ
four b i = slice_index b i ∷ slice_index b (i + 1) ∷ slice_index b (i + 2) ∷ slice_index b (i + 3) ∷ []

unfoldable pub axis_record : ℕ → Seen → List ℕ → Result Record Fault
axis_record n s b =
    next (checked (axis_in_turn s (slice_index b 1)) (fault Turn n 0)) λ _.
    next (axis_of n (slice_index b 2) (slice_index b 3) (four b 4) (four b 8) (drop 12 b)) λ a. Ok (IsAxis a)

unfoldable pub term_record : ℕ → Seen → List ℕ → Result Record Fault
term_record n s b =
    next (checked (term_in_turn s) (fault Turn n 0)) λ _.
    next (term_of s.axes n (four b 1) (slice_index b 5 ∷ slice_index b 6 ∷ slice_index b 7 ∷ []) (four b 8) (four b 12)) λ t. Ok (IsTerm t)

unfoldable pub question_record : ℕ → Seen → List ℕ → Result Record Fault
question_record n s b =
    next (checked (question_in_turn s) (fault Turn n 0)) λ _.
    next (question_of n (slice_index b 1) (slice_index b 2) (drop 3 b)) λ q. Ok (IsQuestion q)

-- by the kind of a record: axis, term, question, or none of them
abbrev pub by_kind : {X : Type 0} → ℕ → X → X → X → X → X
by_kind kind axis term question other = cond (kind == 1) axis (cond (kind == 2) term (cond (kind == 3) question other))

-- nothing comes after a question
unfoldable pub record_of : ℕ → Seen → List ℕ → Result Record Fault
record_of n s b =
    next (checked (not (is_some s.question)) (fault Turn n 0)) λ _.
    by_kind (slice_index b 0) (axis_record n s b) (term_record n s b) (question_record n s b) (Err (fault Turn n 0))

-- m records, of which the first has the number n
unfoldable pub records_of : ℕ → ℕ → Seen → List ℕ → Result Seen Fault
records_of zero n s bs = Ok s
records_of (suc m) n s bs = next (record_of n s (take 16 bs)) (λ r. records_of m (n + 1) (added r s) (drop 16 bs))

-- ---- the ticket
abbrev pub ticket_of : Seen → Question → Content
ticket_of s q = record { axes = s.axes; terms = s.terms; relation = q.relation; depth = q.depth }

-- the last of m records is a question, or that is its fault
abbrev pub finished : Option Question → Seen → ℕ → Result Content Fault
finished (Some q) s m = Ok (ticket_of s q)
finished None s m = Err (fault Turn (m - 1) 0)

-- from 1 to 133 whole records
abbrev pub is_length : ℕ → Bool
is_length n = nat_lt 0 n && (n % 16 == 0 && nat_le (n / 16) 133)

unfoldable pub reading : List ℕ → Result Content Fault
reading bs =
    next (checked (is_length (length bs)) (fault Length 0 0)) λ _.
    next (records_of (length bs / 16) 0 nothing bs) λ s.
    finished s.question s (length bs / 16)
