-- What hexadecimal digits stand for.
use Rattle.std.specs.Prelude.{ℕ, ◌+◌, ◌-◌, ◌*◌, cond, ◌&&◌, List, [], ◌∷◌, Some, None, Option, nat_le}
use Rattle.std.specs.Option.{option_map}

-- one digit: 0 to 9 are the bytes 48 to 57, A to F the bytes 65 to 70, and a to f the bytes 97 to 102
abbrev pub value_of : ℕ → Option ℕ
value_of b =
    cond (nat_le 48 b && nat_le b 57) (Some (b - 48))
    (cond (nat_le 65 b && nat_le b 70) (Some (b - 55)) (cond (nat_le 97 b && nat_le b 102) (Some (b - 87)) None))

-- two digits, where both are digits
abbrev pub joined : Option ℕ → Option ℕ → Option ℕ
joined None low = None
joined (Some h) None = None
joined (Some h) (Some l) = Some (16 * h + l)

-- one byte: two digits, the high one first
abbrev pub byte_of : List ℕ → Option ℕ
byte_of [] = None
byte_of (h ∷ []) = None
byte_of (h ∷ l ∷ []) = joined (value_of h) (value_of l)
byte_of (h ∷ l ∷ m ∷ rest) = None

-- a byte in front of others, where all are there
abbrev pub before : Option ℕ → Option (List ℕ) → Option (List ℕ)
before None bytes = None
before (Some b) bytes = option_map (λ bs. b ∷ bs) bytes

-- bytes one after the other
abbrev pub bytes_of : List ℕ → Option (List ℕ)
bytes_of [] = Some []
bytes_of (h ∷ []) = None
bytes_of (h ∷ l ∷ rest) = before (joined (value_of h) (value_of l)) (bytes_of rest)
