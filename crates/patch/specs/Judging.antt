-- Judging the patch of a box: what its numbers say of the relation.
use Rattle.std.specs.Prelude.{ℕ, zero, suc, Bool, true, false, not, ◌&&◌, List, [], ◌∷◌, ◌++◌, map, length, Option, slice_index_or}
use Rattle.std.specs.List.{list_all, find}
use Rattle.algebra.specs.Pair.{Pair, pairs, sign_of}
use Rattle.algebra.specs.Form.{corner_index}
use Rattle.algebra.specs.Layout.{place_of}
use Rattle.algebra.specs.declared.half.Half.{Half}
use Rattle.algebra.specs.declared.half.Half.TheVariants.{Lower, Upper}
use Rattle.algebra.specs.declared.sign.Sign.{Sign}
use Rattle.algebra.specs.declared.sign.Sign.TheVariants.{Negative, Zero, Positive}
use Rattle.number.specs.Limits.{may_grow}
use Rattle.ticket.specs.declared.records.Relation.{Relation}
use Rattle.ticket.specs.declared.records.Relation.TheVariants.{Greater, AtLeast, Less, AtMost}

-- a pair of this sign stands in the relation to (0, 0)
abbrev pub satisfies : Relation → Sign → Bool
satisfies Greater Negative = false
satisfies Greater Zero = false
satisfies Greater Positive = true
satisfies AtLeast Negative = false
satisfies AtLeast Zero = true
satisfies AtLeast Positive = true
satisfies Less Negative = true
satisfies Less Zero = false
satisfies Less Positive = false
satisfies AtMost Negative = true
satisfies AtMost Zero = true
satisfies AtMost Positive = false

-- all numbers of the patch satisfy the relation
abbrev pub all_satisfy : Relation → List Pair → Bool
all_satisfy relation b = list_all (λ x. satisfies relation (sign_of x)) b

-- all numbers of the patch may be doubled n times
abbrev pub all_grow : ℕ → ℕ → List Pair → Bool
all_grow limit n b = list_all (may_grow limit n) b

abbrev pub signs : List Pair → List Sign
signs b = map sign_of b

-- ---- corners
-- which ends of a box on one axis belong to it
pub record Ends : Type 0 where
  pub lower_closed : Bool
  pub upper_closed : Bool

abbrev pub closed : Half → Ends → Bool
closed Lower e = e.lower_closed
closed Upper e = e.upper_closed

-- a corner, an end of each axis, lies in the box: every end that it uses is closed
abbrev pub corner_inside : List Ends → List Half → Bool
corner_inside [] c = true
corner_inside (e ∷ es) [] = true
corner_inside (e ∷ es) (h ∷ hs) = closed h e && corner_inside es hs

-- the corners of m axes in the order of their places
abbrev pub corners : ℕ → List (List Half)
corners zero = [] ∷ []
corners (suc m) = map (λ c. Lower ∷ c) (corners m) ++ map (λ c. Upper ∷ c) (corners m)

-- the number of the patch at a corner
abbrev pub corner_number : List ℕ → List Pair → List Half → Pair
corner_number ns b c = slice_index_or b (place_of ns (corner_index ns c)) pairs.nought

abbrev pub breaks : Relation → List ℕ → List Ends → List Pair → List Half → Bool
breaks relation ns es b c = corner_inside es c && not (satisfies relation (sign_of (corner_number ns b c)))

-- the corner of lowest place that lies in the box and violates the relation
abbrev pub broken_corner : Relation → List ℕ → List Ends → List Pair → Option (List Half)
broken_corner relation ns es b = find (breaks relation ns es b) (corners (length ns))
