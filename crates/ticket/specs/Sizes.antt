-- How large a ticket is: how many numbers its patches have, and how large they can be.
use Rattle.std.specs.Prelude.{ℕ, ◌+◌, ◌*◌, ◌^◌, Bool, ◌&&◌, List, [], ◌∷◌, map, length, ℤ, ◌-ℤ◌, Ok, Result, nat_le, slice_index, slice_index_or, unsigned_abs}
use Rattle.algebra.specs.Layout.{numbers}
use Rattle.number.specs.Limits.{word, carries}
use Rattle.ticket.specs.Faults.{fault, checked, next, each_checked}
use Rattle.ticket.specs.WellFormed.{Content}
use Rattle.ticket.specs.declared.fault.Fault.{Fault}
use Rattle.ticket.specs.declared.fault.Refusal.TheVariants.{PatchSize, Size, Drift}
use Rattle.ticket.specs.declared.records.Axis.{Axis}
use Rattle.ticket.specs.declared.records.Term.{Term}

-- the least common multiple of the binomials C(n, i), for degrees 1 to 8
abbrev pub common : ℕ → ℕ
common n = slice_index_or (1 ∷ 1 ∷ 2 ∷ 3 ∷ 12 ∷ 10 ∷ 60 ∷ 105 ∷ 280 ∷ []) n 1

abbrev pub degrees_of : List Axis → List ℕ
degrees_of axes = map (λ a. a.degree) axes

-- what is left of a list without its first
abbrev pub rest : {X : Type 0} → List X → List X
rest [] = []
rest (x ∷ xs) = xs

-- how many numbers a patch has
abbrev pub patch_count : List Axis → ℕ
patch_count axes = numbers (degrees_of axes)

-- the factor that makes all numbers of the first patch whole
abbrev pub scale : List Axis → ℕ
scale [] = 1
scale (a ∷ axes) = common a.degree * scale axes

-- a variable on [a, b] is nowhere larger in size than |a| + (b - a)
abbrev pub reach : Axis → ℕ
reach a = unsigned_abs a.lower + unsigned_abs (a.upper -ℤ a.lower)

-- the reaches of all variables, each to its exponent
abbrev pub power_reach : List Axis → List ℕ → ℕ
power_reach [] es = 1
power_reach (a ∷ axes) es = reach a ^ slice_index es 0 * power_reach axes (rest es)

-- the sum over the terms as written, of the sizes of their values or of their drifts
abbrev pub terms_size : (Term → ℤ) → List Axis → List Term → ℕ
terms_size part axes [] = 0
terms_size part axes (t ∷ ts) = unsigned_abs (part t) * power_reach axes t.exponents + terms_size part axes ts

abbrev pub size_of : (Term → ℤ) → List Axis → List Term → ℕ
size_of part axes terms = scale axes * terms_size part axes terms

abbrev pub value_size : List Axis → List Term → ℕ
value_size = size_of (λ t. t.coefficient)

abbrev pub drift_size : List Axis → List Term → ℕ
drift_size = size_of (λ t. t.drift)

-- a patch has at most 128 numbers
abbrev pub is_patch : List Axis → Bool
is_patch axes = nat_le (patch_count axes) 128

-- both sizes are at most 2^62 - 1
abbrev pub is_sized : List Axis → List Term → Bool
is_sized axes terms = nat_le (value_size axes terms) word && nat_le (drift_size axes terms) word

-- a kind of number that does not drift carries no term that does; the first of these terms is record n
abbrev pub drifts_carried : Bool → ℕ → List Term → Result (Unit {0}) Fault
drifts_carried drifts n terms = each_checked (λ _ t. carries drifts t.drift) (λ k. fault Drift k 12) n terms

-- the first fault of a ticket as a whole, for a kind of number that drifts or not
unfoldable pub sizing : Bool → Content → Result Content Fault
sizing drifts c =
    next (checked (is_patch c.axes) (fault PatchSize 0 0)) λ _.
    next (checked (is_sized c.axes c.terms) (fault Size 0 0)) λ _.
    next (drifts_carried drifts (length c.axes) c.terms) λ _.
    Ok c
