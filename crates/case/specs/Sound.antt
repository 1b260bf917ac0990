-- What always holds of a case.
use Rattle.std.specs.Prelude.{◌≡◌, ℕ, ◌+◌, ◌≤◌, ◌⊎◌, List, [], map, None, Option}
use Rattle.search.proofs.Orderly.{Waits, Stacked, cost, full}
use Rattle.case.specs.Records.{box_of}
use Rattle.case.specs.declared.record.Record.{Record}

-- of m axes, at depth d: the waiting records, the newest first, the counts, the corner and the record of its box
pub record Sound (m d : ℕ) (records : List Record) (examined deep large : ℕ) (corner : Option ℕ) (found : Record) : Type 0 where
  pub stacked : Stacked m d (map (box_of m) records)
  -- what was examined and what the waiting boxes can still cost
  pub within : examined + cost d (map (box_of m) records) ≤ full d
  pub aside : deep + large ≤ examined
  -- a corner ends the search
  pub uncornered : (records ≡ []) ⊎ (corner ≡ None)
  pub placed : Waits m d 0 (box_of m found)
