-- How a number is printed.
use Rattle.std.specs.Prelude.{ℕ, cond, List, ◌++◌, codes, ◌==◌, unsigned_abs}
use Rattle.std.specs.Fmt.{signed_decimal}
use Rattle.algebra.specs.Pair.{Pair}

-- the value, and behind it the drift unless that is 0
abbrev pub pair_text : Pair → List ℕ
pair_text x = cond (unsigned_abs x.drift == 0) (signed_decimal x.value) (signed_decimal x.value ++ (codes " (drift " ++ (signed_decimal x.drift ++ codes ")")))
