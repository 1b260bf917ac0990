use Rattle.algebra.proofs.Pair.{pairs_laws}
use Rattle.algebra.proofs.Form.{form_plus, form_times, form_cong, form_keeps_positive, form_keeps_not_negative, form_at_corner, corner_shows_sign, corner_has_index, form_halves}
use Rattle.algebra.proofs.laws.several_axes_laws.Goals as goal

pub returns : goal.returns
returns c = record {
  adds = form_plus pairs_laws;
  multiplies = form_times pairs_laws;
  reads = form_cong pairs_laws;
  positive = form_keeps_positive;
  not_negative = form_keeps_not_negative;
  corner = form_at_corner pairs_laws;
  sign = corner_shows_sign;
  index = corner_has_index;
  halves = form_halves pairs_laws;
}
