-- The sizes of machine numbers: which pairs a kind can make, keep and let grow. Every test computes.
use Rattle.std.specs.Prelude.{◌≡◌, ℕ, ◌+◌, ◌-◌, ◌^◌, Bool, true, ◌&&◌, ◌||◌, ℤ, pos, Option, ◌==◌, nat_le, unsigned_abs}
use Rattle.std.specs.Bool.{then_some}
use Rattle.algebra.specs.Pair.{Pair, pair, pairs, sum, multiple, Within}

-- the largest size of a word from which every kind makes a number
abbrev pub word : ℕ
word = 2 ^ 62 - 1

-- a whole number is at most a limit in size
abbrev pub is_within : ℕ → ℤ → Bool
is_within limit z = nat_le (unsigned_abs z) limit

-- both parts of a pair are: the test of `Within`
abbrev pub fits : ℕ → Pair → Bool
fits limit x = is_within limit x.value && is_within limit x.drift

-- a pair, or none if a part of it exceeds the limit in size
abbrev pub kept : ℕ → Pair → Option Pair
kept limit x = then_some (fits limit x) x

-- a kind that drifts carries every drift, and one that does not carries 0 alone
abbrev pub carries : Bool → ℤ → Bool
carries drifts d = drifts || unsigned_abs d == 0

-- the pair of two words, or none if the kind does not carry the drift or a word exceeds 2^62 - 1 in size
abbrev pub made : Bool → ℤ → ℤ → Option Pair
made drifts v d = then_some (carries drifts d && fits word (pair v d)) (pair v d)

-- a pair times 2^n fits the limit still
abbrev pub may_grow : ℕ → ℕ → Pair → Bool
may_grow limit n x = fits limit (multiple (pos (2 ^ n)) x)

-- What growth is good for, whatever the limit: the zero pair may always grow, a pair that may grow is within the limit, and a
-- sum may be doubled once less than both its summands.
pub record GrowthGivesRoom : Type 0 where
  pub nought : (limit n : ℕ) → may_grow limit n pairs.nought ≡ true
  pub within : (limit n : ℕ) (x : Pair) → may_grow limit n x ≡ true → Within limit x
  pub sums : (limit n : ℕ) (x y : Pair) → may_grow limit (n + 1) x ≡ true → may_grow limit (n + 1) y ≡ true → may_grow limit n (sum x y) ≡ true
