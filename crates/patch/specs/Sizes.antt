-- How large the numbers of a ticket's first patch can be.
use Rattle.std.specs.Prelude.{ℕ, ◌≤◌, slice_index_or, unsigned_abs}
use Rattle.algebra.specs.Pair.{Pair, pairs}
use Rattle.ticket.specs.WellFormed.{Content}
use Rattle.patch.specs.FirstPatch.{turned, first_patch}
use Rattle.ticket.specs.Sizes.{value_size, drift_size}

-- both parts are within the ticket's sizes
pub record WithinSizes (c : Content) (x : Pair) : Type 0 where
  pub value : unsigned_abs x.value ≤ value_size c.axes c.terms
  pub drift : unsigned_abs x.drift ≤ drift_size c.axes c.terms

-- every number of the first patch is
abbrev pub FirstPatchIsBounded : Type 0
FirstPatchIsBounded = (c : Content) (i : ℕ) → WithinSizes c (slice_index_or (first_patch (turned c)) i pairs.nought)
