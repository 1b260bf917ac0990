-- The axes in turn.
use Rattle.std.specs.Prelude.{◌%◌, max, length}
use Rattle.chooser.specs.Choice.{Meaning}
use Rattle.algebra.specs.declared.half.Half.TheVariants.{Lower}

-- the depth counts round the axes, and the lower half comes first; axis 0 where there are none
abbrev pub alternating : Meaning
alternating q = (q.depth % max 1 (length q.degrees), Lower)
