-- What the powers of a variable count for in its Bernstein coefficients.
use Rattle.std.specs.Prelude.{ℕ, ◌*◌, ◌/◌, cond, ◌&&◌, nat_le}
use Rattle.algebra.specs.Bernstein.{choose}
use Rattle.ticket.specs.Sizes.{common}

-- L(n) · C(k, i) / C(n, i), for i ≤ k ≤ n and a degree n from 1 to 8; else 0
unfoldable pub weight_of : ℕ → ℕ → ℕ → ℕ
weight_of n k i = cond (nat_le 1 n && nat_le n 8 && nat_le k n && nat_le i k) (common n * choose k i / choose n i) 0
