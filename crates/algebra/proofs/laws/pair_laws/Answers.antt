use Rattle.algebra.proofs.Pair.{opposite_is_multiple}
use Rattle.algebra.proofs.Signs.{positive_parts, from_positive_parts, not_negative_parts, from_not_negative_parts, multiple_keeps_sign, opposite_turns_sign, positive_plus, not_negative_plus}
use Rattle.algebra.proofs.laws.pair_laws.Goals as goal

pub returns : goal.returns
returns c = record {
  above = λ x. (positive_parts x, from_positive_parts x);
  not_below = λ x. (not_negative_parts x, from_not_negative_parts x);
  multiple = multiple_keeps_sign;
  opposite = opposite_turns_sign;
  minus = opposite_is_multiple;
  positive = positive_plus;
  not_negative = not_negative_plus;
}
