use Rattle.patch.proofs.BoxCorners.{corners_are_numbered}
use Rattle.patch.proofs.corners.corner_laws.Goals as goal

pub returns : goal.returns
returns c = corners_are_numbered
