-- How a ticket is written: records of sixteen bytes.
use Rattle.std.specs.Prelude.{ℕ, ◌+◌, List, [], ◌∷◌, ◌++◌}
use Rattle.ticket.specs.Numbers.{four_bytes, flags, relation_number}
use Rattle.ticket.specs.WellFormed.{Content}
use Rattle.ticket.specs.declared.records.Axis.{Axis}
use Rattle.ticket.specs.declared.records.Term.{Term}
use Rattle.ticket.specs.declared.records.Relation.{Relation}

-- kind 1: number, degree, flags, lower end, upper end, and four zero bytes
abbrev pub axis_bytes : ℕ → Axis → List ℕ
axis_bytes number a =
    1 ∷ number ∷ a.degree ∷ flags a.lower_open a.upper_open
    ∷ (four_bytes a.lower ++ (four_bytes a.upper ++ (0 ∷ 0 ∷ 0 ∷ 0 ∷ [])))

-- kind 2: four exponents, three zero bytes, coefficient, drift
abbrev pub term_bytes : Term → List ℕ
term_bytes t = 2 ∷ (t.exponents ++ (0 ∷ 0 ∷ 0 ∷ (four_bytes t.coefficient ++ four_bytes t.drift)))

-- kind 3: relation, depth, and thirteen zero bytes
abbrev pub question_bytes : Relation → ℕ → List ℕ
question_bytes relation depth =
    3 ∷ relation_number relation ∷ depth ∷ 0 ∷ 0 ∷ 0 ∷ 0 ∷ 0 ∷ 0 ∷ 0 ∷ 0 ∷ 0 ∷ 0 ∷ 0 ∷ 0 ∷ 0 ∷ []

-- axes, of which the first has the number k
abbrev pub axes_bytes : ℕ → List Axis → List ℕ
axes_bytes k [] = []
axes_bytes k (a ∷ more) = axis_bytes k a ++ axes_bytes (k + 1) more

abbrev pub terms_bytes : List Term → List ℕ
terms_bytes [] = []
terms_bytes (t ∷ more) = term_bytes t ++ terms_bytes more

-- the axes in order, the terms, the question
unfoldable pub encoded : Content → List ℕ
encoded c = axes_bytes 0 c.axes ++ (terms_bytes c.terms ++ question_bytes c.relation c.depth)
