use Rattle.patch.proofs.Examples.{worked_patches, worked_size}
use Rattle.patch.proofs.laws.worked_patches.Goals as goal

pub returns : goal.returns
returns c = record { patches = worked_patches; size = worked_size }
