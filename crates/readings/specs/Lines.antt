-- The lines of the table.
use Rattle.std.specs.Prelude.{ℕ, zero, suc, Bool, false, not, List, [], ◌∷◌, ◌++◌, ◌==◌}

-- a line holds a case unless it is blank or begins with #, which is the byte 35
abbrev pub is_case : List ℕ → Bool
is_case [] = false
is_case (b ∷ rest) = not (b == 35)

-- n copies of the same bytes
abbrev pub copies : ℕ → List ℕ → List ℕ
copies zero once = []
copies (suc n) once = copies n once ++ once
