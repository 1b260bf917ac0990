-- The first best of some axes.
use Rattle.std.specs.Prelude.{ℕ, zero, suc, Bool, cond}

-- the lowest of n axes that none of them beats; 0 where there are none
abbrev pub first_best : (ℕ → ℕ → Bool) → ℕ → ℕ
first_best beats zero = 0
first_best beats (suc n) = cond (beats n (first_best beats n)) n (first_best beats n)
