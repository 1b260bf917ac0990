-- The numbers in a ticket: which are within its limits, and how bytes hold them.
use Rattle.std.specs.Prelude.{ℕ, ◌+◌, ◌*◌, ◌/◌, ◌%◌, ◌<◌, Bool, cond, not, ◌&&◌, List, [], ◌∷◌, ℤ, pos, neg_ℤ, Some, None, Option, ◌==◌, bit_and, int_le, nat_le, slice_index}
use Rattle.std.specs.Int.{w32}
use Rattle.std.proofs.Common.{to_z, of_z}
use Rattle.ticket.specs.declared.records.Relation.{Relation}
use Rattle.ticket.specs.declared.records.Relation.TheVariants.{Greater, AtLeast, Less, AtMost}

-- bytes: numbers below 256
abbrev pub Bytes : List ℕ → Type 0
Bytes bs = (k : ℕ) → slice_index bs k < 256

-- ---- limits
-- a degree is from 1 to 8
abbrev pub is_degree : ℕ → Bool
is_degree d = nat_le 1 d && nat_le d 8

-- an end of an axis is from -30,000 to 30,000
abbrev pub is_end : ℤ → Bool
is_end z = int_le (neg_ℤ (pos 30000)) z && int_le z (pos 30000)

-- a depth is at most 24
abbrev pub is_depth : ℕ → Bool
is_depth d = nat_le d 24

-- ---- numbers of four bytes: two's complement, the most significant byte first
abbrev pub whole : List ℕ → ℤ
whole b = to_z w32 (slice_index b 0 * 16777216 + slice_index b 1 * 65536 + slice_index b 2 * 256 + slice_index b 3)

abbrev pub four_bytes : ℤ → List ℕ
four_bytes z = of_z w32 z / 16777216 ∷ of_z w32 z / 65536 % 256 ∷ of_z w32 z / 256 % 256 ∷ of_z w32 z % 256 ∷ []

-- which whole numbers have four bytes
abbrev pub fits_four_bytes : ℤ → Bool
fits_four_bytes z = int_le (neg_ℤ (pos 2147483648)) z && int_le z (pos 2147483647)

-- ---- the ends of an axis in one byte: bit 0 is set where the lower end is open, bit 1 where the upper is
abbrev pub lower_flag : ℕ → Bool
lower_flag e = not (bit_and e 1 == 0)

abbrev pub upper_flag : ℕ → Bool
upper_flag e = not (bit_and e 2 == 0)

abbrev pub flags : Bool → Bool → ℕ
flags lower upper = cond lower 1 0 + cond upper 2 0

-- ---- the number of each relation: >, ≥, <, ≤
abbrev pub relation_number : Relation → ℕ
relation_number Greater = 1
relation_number AtLeast = 2
relation_number Less = 3
relation_number AtMost = 4

-- the relation that has a number
abbrev pub relation_of : ℕ → Option Relation
relation_of n =
    cond (n == relation_number Greater) (Some Greater)
    (cond (n == relation_number AtLeast) (Some AtLeast)
    (cond (n == relation_number Less) (Some Less)
    (cond (n == relation_number AtMost) (Some AtMost) None)))
