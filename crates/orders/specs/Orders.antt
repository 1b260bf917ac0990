-- What an order says.
use Rattle.std.specs.Prelude.{◌≡◌, ℕ, ◌+◌, ◌-◌, ◌*◌, ◌≤◌, Bool, true, cond, ◌&&◌, List, [], ◌∷◌, ◌++◌, length, drop, Some, None, codes, decimal, Option, ◌==◌, nat_le, slice_index}
use Rattle.std.specs.Option.{option_map}
use Rattle.std.specs.Str.Parse.{digits_value as value}
use Rattle.std.specs.Char.{is_ascii_digit}
use Rattle.std.specs.Str.{all_ascii_digits}
use Rattle.search.specs.declared.call.Call.{Call}
use Rattle.search.specs.declared.call.Call.TheVariants.{Run, Deepen, Verdict, Point}

-- ---- from text to calls
-- the number that decimal digits write behind the number so far; none if a byte is no digit
abbrev pub digits_value : ℕ → List ℕ → Option ℕ
digits_value so_far [] = Some so_far
digits_value so_far (c ∷ cs) = cond (is_ascii_digit c) (digits_value (so_far * 10 + (c - 48)) cs) None

-- the numbers that an order can have
abbrev pub is_small : ℕ → Bool
is_small n = nat_le n 65535

abbrev pub small : Option ℕ → Option ℕ
small None = None
small (Some n) = cond (is_small n) (Some n) None

-- one space and one to five digits
abbrev pub number_of : List ℕ → Option ℕ
number_of bytes = cond (slice_index bytes 0 == 32 && (nat_le 2 (length bytes) && nat_le (length bytes) 6)) (small (digits_value 0 (drop 1 bytes))) None

-- the call of a letter that nothing may follow
abbrev pub alone : List ℕ → Call → Option Call
alone line c = cond (length line == 1) (Some c) None

-- one of four by the letter r, d, v, p, or the last
abbrev pub by_letter : {X : Type 0} → ℕ → X → X → X → X → X → X
by_letter c r d v p other = cond (c == 114) r (cond (c == 100) d (cond (c == 118) v (cond (c == 112) p other)))

-- the call of a line; none if it is unreadable
abbrev pub call_of : List ℕ → Option Call
call_of line =
    by_letter (slice_index line 0)
    (option_map Run (number_of (drop 1 line)))
    (option_map Deepen (number_of (drop 1 line)))
    (alone line Verdict)
    (alone line Point)
    None

-- ---- from calls to text
-- a call has an order unless its number is too large for one
abbrev pub has_order : Call → Bool
has_order (Run n) = is_small n
has_order (Deepen n) = is_small n
has_order Verdict = true
has_order Point = true

abbrev pub order_text : Call → List ℕ
order_text (Run n) = codes "r " ++ decimal n
order_text (Deepen n) = codes "d " ++ decimal n
order_text Verdict = codes "v"
order_text Point = codes "p"

-- every call that has an order is read from its text
abbrev pub OrdersAreReadBack : Type 0
OrdersAreReadBack = (c : Call) → has_order c ≡ true → call_of (order_text c) ≡ Some c

-- ---- exactly
-- a letter, one space, and one to five digits that write the number, which is at most 65,535
pub record Numbered (letter : ℕ) (line : List ℕ) (n : ℕ) : Type 0 where
  pub figures : List ℕ
  pub line_is : line ≡ letter ∷ 32 ∷ figures
  pub are_digits : all_ascii_digits figures ≡ true
  pub some : 1 ≤ length figures
  pub few : length figures ≤ 5
  pub value_is : value 10 figures ≡ n
  pub limit : n ≤ 65535

-- the line is an order for the call
abbrev pub Asks : List ℕ → Call → Type 0
Asks line (Run n) = Numbered 114 line n
Asks line (Deepen n) = Numbered 100 line n
Asks line Verdict = line ≡ codes "v"
Asks line Point = line ≡ codes "p"

-- a line is read as a call exactly if it is an order for that call
pub record OrdersAreExact : Type 0 where
  pub only : (line : List ℕ) (c : Call) → call_of line ≡ Some c → Asks line c
  pub all : (line : List ℕ) (c : Call) → Asks line c → call_of line ≡ Some c
