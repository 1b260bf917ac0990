-- The point of a failing case.
use Rattle.std.proofs.Common.{◌≡◌, ℕ, ◌+◌, ◌≤◌, ◌⊎◌, List, [], length, Some, None, Option, sym, ap, ◌∙◌, subst, inl, inr, arith}
use mathlib.Core.Logic.{∥∥₁_elim}
use native.Mathlib.Bridge.{le_prop}
use Rattle.algebra.specs.Pair.{Pair}
use Rattle.number.specs.declared.number.Number.{Ghosts}
use Rattle.patch.specs.Box.{Coordinate, coordinates}
use Rattle.patch.specs.Corners.{corner_of}
use Rattle.chooser.specs.Choice.{Meaning}
use Rattle.search.specs.Search.{Piece, word_of}
use Rattle.search.specs.Calls.{pointed, reply}
use Rattle.search.specs.declared.word.Word.TheVariants.{Fails}
use Rattle.search.specs.declared.call.Call.TheVariants.{Point}
use Rattle.search.proofs.Keeping.{void}
use Rattle.search.proofs.Points.{failing_points}
use Rattle.case.specs.Model.{ticket_of, corner_in, model}
use Rattle.case.specs.Sound.{Sound}
use Rattle.case.specs.declared.record.Record.{Record}
use Rattle.case.specs.declared.case.Case.{Case}
use Rattle.case.proofs.Corner.{no_more_coordinates}
use Rattle.case.proofs.Ran.{none_waits}
use Rattle.case.proofs.Standing.{axes}

-- a corner ends the search
none_beside : (m d : ℕ) (rs : List Record) (e a b n : ℕ) (f : Record) → ∥ Sound m d rs e a b (Some n) f ∥₁ → length rs ≤ 0
none_beside m d rs e a b n f s = ∥∥₁_elim s le_prop (λ t. by_end t.uncornered)
  where
    by_end : (rs ≡ []) ⊎ (Some n ≡ None) → length rs ≤ 0
    by_end (inl e) = omega (arith, ap length e)
    by_end (inr e) = absurd (void (cc))

failing : (xs : List Piece) (corner : Option (List Coordinate)) (aside : ℕ) (p : List Coordinate) → xs ≡ [] → corner ≡ Some p → word_of xs corner aside ≡ Fails
failing xs corner aside p e f = ap (λ ys. word_of ys corner aside) e ∙ ap (λ o. word_of [] o aside) f

module _ {K : Type 0} {N : Ghosts K} (k : Case K N) (work : List Pair) (limit : ℕ) (μ : Meaning) (len n : ℕ) (cornered : k.corner ≡ Some n) where
  corner_is : (model k work).corner ≡ Some (coordinates (ticket_of k).axes k.found (corner_of (axes k) n))
  corner_is = ap (corner_in (ticket_of k).axes k.found) cornered ∙ ap Some (no_more_coordinates (ticket_of k).axes k.found (corner_of (axes k) n))

  none_left : (model k work).waiting ≡ []
  none_left =
      let l : length k.waiting ≤ 0 = none_beside (axes k) k.depth k.waiting k.examined k.aside_depth k.aside_range n k.found (subst (λ o. ∥ Sound (axes k) k.depth k.waiting k.examined k.aside_depth k.aside_range o k.found ∥₁) cornered k.sound) in
      none_waits k work (omega (arith, l))

  pub point_is_told : pointed (coordinates (ticket_of k).axes k.found (corner_of (axes k) n)) ≡ reply (ticket_of k) limit μ len (model k work) Point
  point_is_told =
      sym (failing_points (model k work) _ (failing (model k work).waiting (model k work).corner (k.aside_depth + k.aside_range) _ none_left corner_is) corner_is)
