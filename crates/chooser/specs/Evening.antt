-- A layer that keeps the halvings of the axes close to each other.
use Rattle.std.specs.Prelude.{ℕ, ◌+◌, Bool, cond, ◌&&◌, length, nat_le, nat_lt, slice_index}
use Rattle.chooser.specs.Choice.{Question, Meaning}
use Rattle.chooser.specs.Best.{first_best}
use Rattle.algebra.specs.declared.half.Half.{Half}
use Rattle.algebra.specs.declared.half.Half.TheVariants.{Lower}

-- the gaps with which such a layer is made, and the number of the refusal of any other
abbrev pub is_gap : ℕ → Bool
is_gap gap = nat_le 1 gap && nat_le gap 24

abbrev pub gap_refusal_number : ℕ
gap_refusal_number = 18

-- how often the box was halved along an axis; an axis of which nothing is said was not halved
abbrev pub halved : Question → ℕ → ℕ
halved q j = slice_index q.halvings j

-- the axis that was halved least, the lowest on a tie
abbrev pub least_halved : Question → ℕ
least_halved q = first_best (λ i j. nat_lt (halved q i) (halved q j)) (length q.degrees)

-- an axis that is a gap or more ahead of the least halved gives way to that one, lower half first
abbrev pub evened : ℕ → Question → ℕ × Half → ℕ × Half
evened gap q a = cond (nat_le (halved q (least_halved q) + gap) (halved q a.0)) (least_halved q, Lower) a

-- the layer's meaning, from the meaning below
abbrev pub evening : ℕ → Meaning → Meaning
evening gap below q = evened gap q (below q)
