-- The worked examples, by computation.
use Rattle.std.proofs.Common.{refl}
use Rattle.patch.specs.Examples.{WorkedPatches, WorkedSize}

pub worked_patches : WorkedPatches
worked_patches = record { first_touching = refl; lower_half = refl; upper_half = refl; first_crossing = refl; lower_ends = refl; upper_ends = refl; middle = refl }

pub worked_size : WorkedSize
worked_size = record { size_of_crossing = refl }
