-- A coefficient: a pair of whole numbers, its value and the drift by which it ages.
use Rattle.std.specs.Prelude.{◌≡◌, ℕ, zero, suc, ◌≤◌, ◌⊎◌, ℤ, pos, negsuc, ◌+ℤ◌, ◌*ℤ◌, neg_ℤ, ◌<ℤ◌, unsigned_abs}
use Rattle.algebra.specs.Module.{Ops}
use Rattle.algebra.specs.declared.sign.Sign.{Sign}
use Rattle.algebra.specs.declared.sign.Sign.TheVariants.{Negative, Zero, Positive}

pub record Pair : Type 0 where
  pub value : ℤ
  pub drift : ℤ

abbrev pub pair : ℤ → ℤ → Pair
pair v d = record { value = v; drift = d }

-- both parts are added, multiplied, or turned over
abbrev pub sum : Pair → Pair → Pair
sum x y = pair (x.value +ℤ y.value) (x.drift +ℤ y.drift)

abbrev pub multiple : ℤ → Pair → Pair
multiple a x = pair (a *ℤ x.value) (a *ℤ x.drift)

abbrev pub opposite : Pair → Pair
opposite x = pair (neg_ℤ x.value) (neg_ℤ x.drift)

abbrev pub pairs : Ops Pair
pairs = record { nought = pair (pos 0) (pos 0); plus = sum; times = multiple }

-- a whole number's sign, or the sign given where it is 0
abbrev pub sign_or : ℤ → Sign → Sign
sign_or (pos zero) else_sign = else_sign
sign_or (pos (suc n)) else_sign = Positive
sign_or (negsuc n) else_sign = Negative

-- the sign of a pair is that of its value, and of its drift where the value is 0
abbrev pub sign_of : Pair → Sign
sign_of x = sign_or x.value (sign_or x.drift Zero)

-- the sign of the opposite
abbrev pub turned : Sign → Sign
turned Negative = Positive
turned Zero = Zero
turned Positive = Negative

-- what a strict inequality asks of a pair, and what one that allows 0 asks
abbrev pub IsPositive : Pair → Type 0
IsPositive x = sign_of x ≡ Positive

abbrev pub NotNegative : Pair → Type 0
NotNegative x = ¬ (sign_of x ≡ Negative)

-- the first of two parts is positive, or it is 0 and the other part decides
abbrev pub FirstOr : ℤ → Type 0 → Type 0
FirstOr v P = (pos 0 <ℤ v) ⊎ ((v ≡ pos 0) × P)

-- both parts are at most a limit in size
abbrev pub Within : ℕ → Pair → Type 0
Within limit x = (unsigned_abs x.value ≤ limit) × (unsigned_abs x.drift ≤ limit)
