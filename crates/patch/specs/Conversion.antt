-- A power of a variable between the ends of its axis, by the parts of which its Bernstein coefficients are sums.
use Rattle.std.specs.Prelude.{◌≡◌, ℕ, ◌-◌, ◌*◌, ◌^◌, ◌≤◌, true, List, length, ℤ, pos, ◌-ℤ◌, ◌*ℤ◌}
use Rattle.algebra.specs.Module.{pow}
use Rattle.algebra.specs.Bernstein.{choose, share}
use Rattle.number.specs.Limits.{word}
use Rattle.ticket.specs.Sizes.{common, reach, scale, power_reach}
use Rattle.ticket.specs.WellFormed.{all, axis_formed, exponents_formed}
use Rattle.ticket.specs.declared.records.Axis.{Axis}

-- with x = a + (b - a) · t, the coefficient of t^m in x^e
abbrev pub shifted_of : Axis → ℕ → ℕ → ℤ
shifted_of axis e m = pos (choose e m) *ℤ (pow (axis.upper -ℤ axis.lower) m *ℤ pow axis.lower (e - m))

-- what it adds to the Bernstein coefficient number k of x^e, times L(n)
abbrev pub summand_of : Axis → ℕ → ℕ → ℕ → ℤ
summand_of axis e k m = shifted_of axis e m *ℤ pos (share (common axis.degree) axis.degree k m)

-- the axis has the exponent e, and no number on the way to the coefficients of that power exceeds a word
pub record Convertible (axis : Axis) (e : ℕ) : Type 0 where
  pub some_degree : 1 ≤ axis.degree
  pub degree : axis.degree ≤ 8
  pub exponent : e ≤ axis.degree
  pub room : common axis.degree * reach axis ^ e ≤ word

-- a monomial of these exponents on well-formed axes: none exceeds the degree of its axis, and no number on the way to its coefficients exceeds a word
pub record Monomial (axes : List Axis) (es : List ℕ) : Type 0 where
  pub axes_formed : all axis_formed axes ≡ true
  pub exponents : exponents_formed axes 0 es ≡ true
  pub for_each_axis : length axes ≤ length es
  pub room : scale axes * power_reach axes es ≤ word
