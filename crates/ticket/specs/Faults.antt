-- Why a ticket is refused, and where.
use Rattle.std.specs.Prelude.{ℕ, ◌+◌, Bool, true, false, List, [], ◌∷◌, Ok, Err, Result}
use Rattle.ticket.specs.declared.fault.Fault.{Fault}
use Rattle.ticket.specs.declared.fault.Layer.{Layer}
use Rattle.ticket.specs.declared.fault.Layer.TheVariants.{Reader, Sizing}
use Rattle.ticket.specs.declared.fault.Refusal.{Refusal}
use Rattle.ticket.specs.declared.fault.Refusal.TheVariants.{Length, Turn, NotZero, Degree, End, Exponent, Relation, Depth, PatchSize, Size, Drift}

-- the numbers of the refusals
abbrev pub refusal_number : Refusal → ℕ
refusal_number Length = 1
refusal_number Turn = 2
refusal_number NotZero = 3
refusal_number Degree = 4
refusal_number End = 5
refusal_number Exponent = 6
refusal_number Relation = 7
refusal_number Depth = 8
refusal_number PatchSize = 9
refusal_number Size = 10
refusal_number Drift = 11

-- the layer that gives a refusal
abbrev pub refusal_layer : Refusal → Layer
refusal_layer Length = Reader
refusal_layer Turn = Reader
refusal_layer NotZero = Reader
refusal_layer Degree = Reader
refusal_layer End = Reader
refusal_layer Exponent = Reader
refusal_layer Relation = Reader
refusal_layer Depth = Reader
refusal_layer PatchSize = Sizing
refusal_layer Size = Sizing
refusal_layer Drift = Sizing

-- a refusal at byte b of record n
abbrev pub fault : Refusal → ℕ → ℕ → Fault
fault why n b = record { refusal = why; layer = refusal_layer why; «record» = n; byte = b }

-- the fault, unless the test is passed
abbrev pub checked : Bool → Fault → Result (Unit {0}) Fault
checked true f = Ok tt
checked false f = Err f

-- what comes next, unless a fault came first
abbrev pub next : {X Y : Type 0} → Result X Fault → (X → Result Y Fault) → Result Y Fault
next (Ok x) f = f x
next (Err e) f = Err e

-- the fault of the first of some things, numbered from n, that fails the test
unfoldable pub each_checked : {X : Type 0} → (ℕ → X → Bool) → (ℕ → Fault) → ℕ → List X → Result (Unit {0}) Fault
each_checked test fault_at n [] = Ok tt
each_checked test fault_at n (x ∷ xs) = next (checked (test n x) (fault_at n)) (λ _. each_checked test fault_at (n + 1) xs)
