-- What the page of a ticket says.
use Rattle.std.specs.Prelude.{ℕ, ◌+◌, Bool, true, false, cond, not, ◌&&◌, List, [], ◌∷◌, ◌++◌, length, ℤ, pos, vec_items, codes, decimal, ◌==◌, int_lt, unsigned_abs}
use Rattle.std.specs.Fmt.{signed_decimal}
use Rattle.std.specs.List.{list_all}
use Rattle.algebra.specs.Pair.{pair}
use Rattle.number.specs.Text.{pair_text}
use Rattle.number.specs.declared.kinds.Drifting.{Drifting}
use Rattle.ticket.specs.declared.records.Axis.{Axis}
use Rattle.ticket.specs.declared.records.Term.{Term}
use Rattle.ticket.specs.declared.records.Relation.{Relation}
use Rattle.ticket.specs.declared.records.Relation.TheVariants.{Greater, AtLeast, Less, AtMost}
use Rattle.ticket.specs.declared.sizes.Sizes.{Sizes}
use Rattle.ticket.specs.declared.ticket.Ticket.{Ticket}

-- ---- relations and axes
abbrev pub relation_sign : Relation → List ℕ
relation_sign Greater = codes ">"
relation_sign AtLeast = codes ">="
relation_sign Less = codes "<"
relation_sign AtMost = codes "<="

-- the brackets of an interval: round at an open end
abbrev pub left_bracket : Bool → List ℕ
left_bracket open_end = cond open_end (codes "(") (codes "[")

abbrev pub right_bracket : Bool → List ℕ
right_bracket open_end = cond open_end (codes ")") (codes "]")

abbrev pub interval_text : Axis → List ℕ
interval_text a =
    left_bracket a.lower_open ++ (signed_decimal a.lower ++ (codes ", " ++ (signed_decimal a.upper ++ right_bracket a.upper_open)))

-- the line of axis number n
abbrev pub axis_text : ℕ → Axis → List ℕ
axis_text n a =
    codes "axis " ++ (decimal n ++ (codes ": x" ++ (decimal n ++ (codes " in " ++ (interval_text a ++ (codes ", degree " ++ decimal a.degree))))))

-- ---- polynomials
-- a power of variable j that is not left out
abbrev pub power_text : ℕ → ℕ → List ℕ
power_text j e = cond (e == 1) (codes "x" ++ decimal j) (codes "x" ++ (decimal j ++ (codes "^" ++ decimal e)))

-- a power in a product: none at exponent 0, and behind a `*` unless the power leads the product
abbrev pub factor_text : Bool → ℕ → ℕ → List ℕ
factor_text leads j e = cond (e == 0) [] (cond leads (power_text j e) (codes "*" ++ power_text j e))

-- the powers of variable j and those after it
abbrev pub powers_text : Bool → ℕ → List ℕ → List ℕ
powers_text leads j [] = []
powers_text leads j (e ∷ es) = factor_text leads j e ++ powers_text (leads && e == 0) (j + 1) es

abbrev pub constant : List ℕ → Bool
constant es = list_all (λ e. e == 0) es

-- a size before its powers; 1 is left out where a power stands
abbrev pub product_text : ℕ → List ℕ → List ℕ
product_text size es = cond (size == 1 && not (constant es)) (powers_text true 0 es) (decimal size ++ powers_text false 0 es)

-- what stands before the size of a coefficient
abbrev pub sign_text : Bool → Bool → List ℕ
sign_text leads negative = cond leads (cond negative (codes "-") []) (cond negative (codes " - ") (codes " + "))

abbrev pub is_zero : ℤ → Bool
is_zero z = unsigned_abs z == 0

abbrev pub drift_text : ℤ → List ℕ
drift_text d = cond (is_zero d) [] (codes " (drift " ++ (signed_decimal d ++ codes ")"))

-- a term behind its sign
abbrev pub unsigned_text : Term → List ℕ
unsigned_text t = product_text (unsigned_abs t.coefficient) t.exponents ++ drift_text t.drift

-- a term, which leads the sum or comes later in it
abbrev pub summand_text : Bool → Term → List ℕ
summand_text leads t = sign_text leads (int_lt t.coefficient (pos 0)) ++ unsigned_text t

-- the texts of some values one after another, where the text of each knows its place, and the first is at place n
abbrev pub numbered : {X : Type 0} → (ℕ → X → List ℕ) → ℕ → List X → List ℕ
numbered text n [] = []
numbered text n (x ∷ xs) = text n x ++ numbered text (n + 1) xs

abbrev pub terms_text : List Term → List ℕ
terms_text ts = numbered (λ n t. summand_text (n == 0) t) 0 ts

abbrev pub polynomial_text : List Term → List ℕ
polynomial_text ts = cond (length ts == 0) (codes "0") (terms_text ts)

-- ---- the page
-- a line for each axis
abbrev pub axes_text : List Axis → List ℕ
axes_text axes = numbered (λ n a. axis_text n a ++ 10 ∷ []) 0 axes

-- a number of things, of which one has a name of its own
abbrev pub counted_text : ℕ → List ℕ → List ℕ → List ℕ
counted_text n one many = decimal n ++ (32 ∷ cond (n == 1) one many)

-- a ticket has a record for each axis, one for each term, and one for the question
abbrev pub record_count : Ticket → ℕ
record_count t = length (vec_items t.axes) + length (vec_items t.terms) + 1

abbrev pub records_text : Ticket → List ℕ
records_text t =
    codes "records: " ++ (decimal (record_count t)
    ++ (codes " (" ++ (counted_text (length (vec_items t.axes)) (codes "axis") (codes "axes")
    ++ (codes ", " ++ (counted_text (length (vec_items t.terms)) (codes "term") (codes "terms")
    ++ codes ", 1 question)")))))

-- the question, the depth and the count, each on a line of its own
abbrev pub question_text : Ticket → List ℕ
question_text t =
    10 ∷ codes "question: p " ++ (relation_sign t.relation
    ++ (codes " 0 at every point of the box" ++ 10 ∷ codes "depth: " ++ (decimal t.depth
    ++ (10 ∷ records_text t))))

abbrev pub page_text : Ticket → List ℕ
page_text t = axes_text (vec_items t.axes) ++ (codes "p = " ++ (polynomial_text (vec_items t.terms) ++ question_text t))

-- ---- patches
abbrev pub number_text : Drifting → List ℕ
number_text x = pair_text (pair x.value x.drift)

-- a number in a list, behind a comma unless it leads
abbrev pub listed_text : Bool → Drifting → List ℕ
listed_text leads x = cond leads (number_text x) (codes ", " ++ number_text x)

abbrev pub numbers_text : List Drifting → List ℕ
numbers_text xs = numbered (λ n x. listed_text (n == 0) x) 0 xs

abbrev pub sizes_text : Sizes → List ℕ
sizes_text s =
    codes "numbers in a patch: " ++ (decimal s.patch ++ (codes ", scaled by " ++ (decimal s.scale
    ++ (10 ∷ codes "sizes: values " ++ (decimal s.value ++ (codes ", drifts " ++ decimal s.drift))))))
