-- Machine words whose size is bounded.
use Rattle.std.proofs.Common.{◌≡◌, ◌≤◌, ℤ, ◌+ℤ◌, nat_abs, arith, w64, to_z, of_z}
use borrow.Author.Differences.{ints}
use Rattle.number.specs.Limits.{word}
use Rattle.number.specs.declared.kinds.Drifting.{Drifting}

-- the sum that the machine computes
abbrev pub machine_sum : ℤ → ℤ → ℤ
machine_sum a b = to_z w64 (of_z w64 (to_z w64 (of_z w64 a) +ℤ to_z w64 (of_z w64 b)))

sum_of_words : (a b : ℤ) → nat_abs a ≤ word → nat_abs b ≤ word → machine_sum a b ≡ a +ℤ b
sum_of_words a b p q = omega (arith, ints)

-- of two bounded words is their sum, in both parts of a number
pub sums_of_parts : (x y : Drifting) → (machine_sum x.value y.value ≡ x.value +ℤ y.value) × (machine_sum x.drift y.drift ≡ x.drift +ℤ y.drift)
sums_of_parts x y = (sum_of_words x.value y.value x.small.0 y.small.0, sum_of_words x.drift y.drift x.small.1 y.small.1)
