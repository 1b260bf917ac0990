-- The corners of a box by number.
use Rattle.std.specs.Prelude.{◌≡◌, ℕ, zero, suc, ◌+◌, ◌*◌, ◌/◌, ◌%◌, ◌^◌, ◌<◌, cond, List, [], ◌∷◌, map, length, None, Option, nat_le}
use Rattle.std.specs.List.{range_with_len}
use Rattle.std.specs.Option.{option_map}
use Rattle.algebra.specs.Pair.{Pair}
use Rattle.algebra.specs.declared.half.Half.{Half}
use Rattle.algebra.specs.declared.half.Half.TheVariants.{Lower, Upper}
use Rattle.ticket.specs.declared.records.Relation.{Relation}
use Rattle.patch.specs.Judging.{Ends, corners, broken_corner}
use Rattle.patch.specs.declared.ends.Ends.{Ends as Held}

-- the ends that the code holds
abbrev pub ends_of : Held → Ends
ends_of e = record { lower_closed = e.lower_closed; upper_closed = e.upper_closed }

-- a corner's number in binary: a digit for each axis, the first axis highest, 1 for the upper end
abbrev pub digit : Half → ℕ
digit Lower = 0
digit Upper = 1

abbrev pub rank : List Half → ℕ
rank [] = 0
rank (h ∷ hs) = digit h * 2 ^ length hs + rank hs

-- and the corner of m axes that has a number
abbrev pub end_of : ℕ → Half
end_of zero = Lower
end_of (suc d) = Upper

abbrev pub corner_of : ℕ → ℕ → List Half
corner_of zero c = []
corner_of (suc m) c = end_of (c / 2 ^ m % 2) ∷ corner_of m c

-- no corner is lost: in their order they are those with the numbers from 0 on, and each has its own number
pub record Numbered (m : ℕ) : Type 0 where
  pub listed : corners m ≡ map (corner_of m) (range_with_len 0 (2 ^ m))
  pub ranked : (c : ℕ) → c < 2 ^ m → rank (corner_of m c) ≡ c

abbrev pub CornersAreNumbered : Type 0
CornersAreNumbered = (m : ℕ) → Numbered m

-- the number of the lowest corner that lies in the box and violates the relation; past four axes none is looked for
abbrev pub lowest_broken : Relation → List ℕ → List Ends → List Pair → Option ℕ
lowest_broken relation ns es b = cond (nat_le (length ns) 4) (option_map rank (broken_corner relation ns es b)) None
