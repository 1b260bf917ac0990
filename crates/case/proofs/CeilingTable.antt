-- The table of the ceilings: its rule as one computed equation, and that rule at one place.
use Rattle.std.proofs.Common.{◌≡◌, ℕ, ◌≤◌, List, map, get_or, ap, ◌∙◌, arith}
use Rattle.std.specs.List.{range_with_len}
use Rattle.std.proofs.lemmas.List.FromFn.{get_or-map-range_with_len}
use Rattle.search.specs.Courses.{ceiling}

unfoldable pub all_ceilings : List ℕ
all_ceilings = map ceiling (range_with_len 0 25)

pub ceiling_at : (xs : List ℕ) → xs ≡ all_ceilings → (d : ℕ) → d ≤ 24 → get_or xs d 0 ≡ ceiling d
unfolding all_ceilings
ceiling_at xs same d l = ap (λ l. get_or l d 0) same ∙ get_or-map-range_with_len ceiling 0 25 d d 0 (omega arith) (omega arith)
