use Rattle.patch.proofs.Formed.{axes_sound}
use Rattle.patch.proofs.Box.{factor_positive, whole_covers, whole_is_placed, half_is_placed}
use Rattle.patch.proofs.FirstPatch.{first_patch_represents}
use Rattle.patch.proofs.Fractions.{fractions_agree}
use Rattle.patch.proofs.Turned.{turned_is_same}
use Rattle.patch.proofs.Meaning.{broken_corner_is_false}
use Rattle.patch.proofs.Sizes.{first_patch_is_bounded}
use Rattle.patch.proofs.laws.patch_laws.Goals as goal

pub returns : goal.returns
returns c = record {
  first = first_patch_represents;
  broken = broken_corner_is_false;
  factor = λ c box formed. factor_positive c.axes box (axes_sound c formed);
  turned = turned_is_same;
  fractions = fractions_agree;
  whole = whole_covers;
  whole_placed = whole_is_placed;
  half_placed = half_is_placed;
  bounded = first_patch_is_bounded;
}
