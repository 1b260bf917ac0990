-- The answer to a point: neither the limit nor the workspace has a part in it.
use Rattle.std.proofs.Common.{◌≡◌, ℕ, zero, suc, ◌+◌, ◌⊎◌, List, [], ◌∷◌, Some, None, Option, unwrap_or, refl, ap, ◌∙◌, inl, inr}
use Rattle.ticket.specs.WellFormed.{Content}
use Rattle.patch.specs.Box.{Coordinate}
use Rattle.chooser.specs.Choice.{Meaning}
use Rattle.search.specs.Search.{Piece, Search, word_of, word}
use Rattle.search.specs.Calls.{Reply, pointed, refused, is_failing, checked, reply_of, reply}
use Rattle.search.specs.declared.word.Word.TheVariants.{Fails}
use Rattle.search.specs.declared.call.Call.TheVariants.{Point as point}
use Rattle.search.specs.declared.call.CallRefusal.TheVariants.{NoPoint}
use Rattle.search.proofs.Keeping.{void}
use Rattle.search.proofs.Orderly.{Orderly}

abbrev pub point_of_search : Search → Reply
point_of_search s = reply_of (checked (is_failing (word s)) NoPoint None) (pointed (unwrap_or s.corner []))

pub failing_points : (s : Search) (p : List Coordinate) → word s ≡ Fails → s.corner ≡ Some p → point_of_search s ≡ pointed p
failing_points s p e f = ap (λ w. reply_of (checked (is_failing w) NoPoint None) (pointed (unwrap_or s.corner []))) e ∙ ap (λ o. pointed (unwrap_or o [])) f

-- in an orderly state the corner alone tells it: none waits beside it
abbrev pub by_corner : Option (List Coordinate) → Reply
by_corner None = refused NoPoint
by_corner (Some p) = pointed p

pub point_by_corner : (m : ℕ) (c : Content) (limit : ℕ) (μ : Meaning) (len : ℕ) (s : Search) → Orderly m s → reply c limit μ len s point ≡ by_corner s.corner
point_by_corner m c limit μ len s o = by_parts s.waiting s.corner (s.aside_depth + s.aside_range) o.uncornered
  where
    by_parts : (xs : List Piece) (corner : Option (List Coordinate)) (n : ℕ) → (xs ≡ []) ⊎ (corner ≡ None) →
        reply_of (checked (is_failing (word_of xs corner n)) NoPoint None) (pointed (unwrap_or corner [])) ≡ by_corner corner
    by_parts (x ∷ xs) (Some p) n (inl e) = absurd (void (cc))
    by_parts (x ∷ xs) (Some p) n (inr e) = absurd (void (cc))
    by_parts (x ∷ xs) None n e = refl
    by_parts [] (Some p) n e = refl
    by_parts [] None zero e = refl
    by_parts [] None (suc n) e = refl
