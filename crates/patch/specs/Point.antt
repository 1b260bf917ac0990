-- A point, and what a ticket's polynomial is there.
use Rattle.std.specs.Prelude.{◌≡◌, ℕ, ◌+◌, ◌-◌, ◌*◌, ◌≤◌, Bool, true, false, List, [], ◌∷◌, map, ℤ, pos, ◌*ℤ◌, ◌≤ℤ◌, ◌<ℤ◌, slice_index_or}
use Rattle.algebra.specs.Module.{pow}
use Rattle.algebra.specs.Pair.{Pair, pair, pairs, sum, multiple, sign_of}
use Rattle.ticket.specs.WellFormed.{Content}
use Rattle.ticket.specs.declared.records.Axis.{Axis}
use Rattle.ticket.specs.declared.records.Term.{Term}
use Rattle.patch.specs.Judging.{satisfies}
use Rattle.ticket.specs.Sizes.{degrees_of, rest}

-- a numerator for each axis, over one denominator, which is at least 1
pub record Point : Type 0 where
  pub numerators : List ℤ
  pub denominator : ℕ

-- the same point by other fractions: its numerators and its denominator times k
abbrev pub enlarged : ℕ → Point → Point
enlarged k p = record { numerators = map (λ u. pos k *ℤ u) p.numerators; denominator = k * p.denominator }

-- ---- the ticket's box
-- not above, and strictly below where the end is open
abbrev pub UpTo : Bool → ℤ → ℤ → Type 0
UpTo true x y = x <ℤ y
UpTo false x y = x ≤ℤ y

-- u / w lies on the axis
pub record OnAxis (a : Axis) (u w : ℤ) : Type 0 where
  pub from_lower : UpTo a.lower_open (a.lower *ℤ w) u
  pub to_upper : UpTo a.upper_open u (a.upper *ℤ w)

-- one numerator for each axis, which lies on it
abbrev pub OnAxes : List Axis → List ℤ → ℤ → Type 0
OnAxes [] [] w = Unit {0}
OnAxes [] (u ∷ us) w = ⊥
OnAxes (a ∷ more) [] w = ⊥
OnAxes (a ∷ more) (u ∷ us) w = OnAxis a u w × OnAxes more us w

pub record LiesIn (axes : List Axis) (p : Point) : Type 0 where
  pub some_denominator : 1 ≤ p.denominator
  pub on_axes : OnAxes axes p.numerators (pos p.denominator)

-- ---- the polynomial's value
abbrev pub sum_of : List ℕ → ℕ
sum_of [] = 0
sum_of (n ∷ ns) = n + sum_of ns

-- Π u^e
abbrev pub powers : List ℤ → List ℕ → ℤ
powers us [] = pos 1
powers us (e ∷ es) = pow (slice_index_or us 0 (pos 0)) e *ℤ powers (rest us) es

-- the monomial of these exponents at us / w, times w^N, where N is the sum of the degrees
abbrev pub monomial_at : List ℕ → List ℤ → ℤ → List ℕ → ℤ
monomial_at ns us w es = powers us es *ℤ pow w (sum_of ns - sum_of es)

abbrev pub pair_of : Term → Pair
pair_of t = pair t.coefficient t.drift

-- Σ of a factor of each term, times the term's pair
abbrev pub sum_over : (Term → ℤ) → List Term → Pair
sum_over f [] = pairs.nought
sum_over f (t ∷ more) = sum (multiple (f t) (pair_of t)) (sum_over f more)

-- the polynomial's value at the point, times w^N
abbrev pub value_at : Content → Point → Pair
value_at c p = sum_over (λ t. monomial_at (degrees_of c.axes) p.numerators (pos p.denominator) t.exponents) c.terms

-- the inequality is true at the point: w^N is positive, so the value's sign does not change by it
abbrev pub TrueAt : Content → Point → Type 0
TrueAt c p = satisfies c.relation (sign_of (value_at c p)) ≡ true
