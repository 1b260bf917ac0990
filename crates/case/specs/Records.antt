-- Boxes as the code holds them.
use Rattle.std.specs.Prelude.{ℕ, [], ◌∷◌, take}
use Rattle.patch.specs.Box.{Box, entire}
use Rattle.case.specs.declared.record.Record.{Record}

-- of m axes
abbrev pub box_of : ℕ → Record → Box
box_of m r = take m r

-- what a table answers where it has no record
abbrev pub blank : Record
blank = []

-- the record of the whole box
abbrev pub whole_record : Record
whole_record = entire ∷ entire ∷ entire ∷ entire ∷ []
