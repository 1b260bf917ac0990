use Rattle.algebra.proofs.Pair.{pairs_laws}
use Rattle.algebra.proofs.Binomial.{eval_is_weighted_sum}
use Rattle.algebra.proofs.Bernstein.{eval_cong, eval_plus, eval_times, eval_factor, eval_mirrors, eval_at_lower_end, eval_at_upper_end, low_is_lower_half, high_is_upper_half, eval_keeps_positive, eval_keeps_not_negative}
use Rattle.algebra.proofs.Monomial.{of_power_evaluates}
use Rattle.algebra.proofs.laws.one_axis_laws.Goals as goal

pub returns : goal.returns
returns c = record {
  adds = eval_plus pairs_laws;
  multiplies = eval_times pairs_laws;
  factor = eval_factor pairs_laws;
  reads = eval_cong pairs_laws;
  explicit = eval_is_weighted_sum pairs_laws;
  mirror = eval_mirrors pairs_laws;
  lower = eval_at_lower_end pairs_laws;
  upper = eval_at_upper_end pairs_laws;
  positive = eval_keeps_positive;
  not_negative = eval_keeps_not_negative;
  low = low_is_lower_half pairs_laws;
  high = high_is_upper_half pairs_laws;
  power = of_power_evaluates;
}
