-- The records of a table of waiting boxes, the newest first.
use Rattle.std.specs.Prelude.{ℕ, zero, suc, List, [], ◌∷◌, slice_index_or}
use Rattle.algebra.specs.Form.{other}
use Rattle.algebra.specs.declared.half.Half.{Half}
use Rattle.patch.specs.Box.{half_box}
use Rattle.case.specs.Records.{blank}
use Rattle.case.specs.declared.record.Record.{Record}

abbrev pub newest_first : ℕ → List Record → List Record
newest_first zero rs = []
newest_first (suc n) rs = slice_index_or rs n blank ∷ newest_first n rs

-- the newest is halved along axis j, and the half named first waits above the other
abbrev pub newest_halved : Half → ℕ → List Record → List Record
newest_halved first j [] = []
newest_halved first j (r ∷ rs) = half_box first j r ∷ half_box (other first) j r ∷ rs
