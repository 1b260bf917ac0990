-- What a ticket says, and when that is well formed.
use Rattle.std.specs.Prelude.{◌≡◌, ℕ, zero, suc, ◌+◌, Bool, true, ◌&&◌, List, [], ◌∷◌, length, ◌==◌, int_lt, nat_le}
use Rattle.ticket.specs.Numbers.{is_degree, is_end, is_depth, fits_four_bytes}
use Rattle.ticket.specs.declared.records.Axis.{Axis}
use Rattle.ticket.specs.declared.records.Term.{Term}
use Rattle.ticket.specs.declared.records.Relation.{Relation}

-- all that a ticket says
pub record Content : Type 0 where
  pub axes : List Axis
  pub terms : List Term
  pub relation : Relation
  pub depth : ℕ

-- the degree of axis j, and 0 where there is no such axis
abbrev pub degree_at : List Axis → ℕ → ℕ
degree_at [] j = 0
degree_at (a ∷ more) zero = a.degree
degree_at (a ∷ more) (suc j) = degree_at more j

abbrev pub all : {X : Type 0} → (X → Bool) → List X → Bool
all test [] = true
all test (x ∷ xs) = test x && all test xs

-- a degree, and two ends, the lower below the upper
abbrev pub axis_formed : Axis → Bool
axis_formed a = is_degree a.degree && (is_end a.lower && (is_end a.upper && int_lt a.lower a.upper))

-- each exponent is at most the degree of its axis; the first is that of axis j
abbrev pub exponents_formed : List Axis → ℕ → List ℕ → Bool
exponents_formed axes j [] = true
exponents_formed axes j (e ∷ es) = nat_le e (degree_at axes j) && exponents_formed axes (j + 1) es

-- four exponents, and two numbers of four bytes
abbrev pub term_formed : List Axis → Term → Bool
term_formed axes t = length t.exponents == 4 && (exponents_formed axes 0 t.exponents && (fits_four_bytes t.coefficient && fits_four_bytes t.drift))

-- 1 to 4 axes, 0 to 128 terms, and a depth
abbrev pub well_formed : List Axis → List Term → ℕ → Bool
well_formed axes terms depth =
    (nat_le 1 (length axes) && nat_le (length axes) 4) && (nat_le (length terms) 128 && (all axis_formed axes && (all (term_formed axes) terms && is_depth depth)))

abbrev pub Formed : Content → Type 0
Formed c = well_formed c.axes c.terms c.depth ≡ true
