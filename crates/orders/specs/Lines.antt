-- The lines of a text, and how long it may be.
use Rattle.std.specs.Prelude.{◌≡◌, ℕ, cond, List, [], ◌∷◌, ◌++◌, length, Ok, Err, Result, ◌==◌, ◌≢◌, nat_le}
use Rattle.std.specs.List.{flat_map, AllByRecursion}
use Rattle.orders.specs.declared.refusal.OrderRefusal.{OrderRefusal}
use Rattle.orders.specs.declared.refusal.OrderRefusal.TheVariants.{TooLong}

-- more than 4,096 bytes are refused as a whole
abbrev pub admission : List ℕ → Result (Unit {0}) OrderRefusal
admission text = cond (nat_le (length text) 4096) (Ok tt) (Err TooLong)

-- a byte before the lines of a text that is no newline belongs to the first of them
abbrev pub longer : ℕ → List (List ℕ) → List (List ℕ)
longer c [] = (c ∷ []) ∷ []
longer c (line ∷ lines) = (c ∷ line) ∷ lines

-- a newline ends a line, and so does the end of the text, unless nothing stands before it
abbrev pub lines_of : List ℕ → List (List ℕ)
lines_of [] = []
lines_of (c ∷ cs) = cond (c == 10) ([] ∷ lines_of cs) (longer c (lines_of cs))

-- ---- lines put together
abbrev pub NoNewline : List ℕ → Type 0
NoNewline line = AllByRecursion (λ c. c ≢ 10) line

-- a line with its end
abbrev pub ended : List ℕ → List ℕ
ended line = line ++ 10 ∷ []

-- lines that are ended one after another are read back; so they are where the last byte, its newline, is wanting behind a line that is not empty
pub record LinesAreReadBack : Type 0 where
  pub all_ended : (lines : List (List ℕ)) → AllByRecursion NoNewline lines → lines_of (flat_map ended lines) ≡ lines
  pub last_open : (lines : List (List ℕ)) (c : ℕ) (line : List ℕ) → AllByRecursion NoNewline lines → NoNewline (c ∷ line) → lines_of (flat_map ended lines ++ c ∷ line) ≡ lines ++ (c ∷ line) ∷ []
