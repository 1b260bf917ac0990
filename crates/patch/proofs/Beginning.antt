-- What writing the first patch answers.
use Rattle.std.proofs.Common.{◌≡◌, ℕ, ◌<◌, ◌≤◌, Bool, true, false, List, ◌++◌, map, length, take, drop, Ok, Err, refl, sym, ap, ◌∙◌, subst}
use Rattle.std.proofs.Math.Seq.{take-append_seam, drop-append_seam}
use Rattle.std.proofs.lemmas.Bool.{lt-leb, le-leb}
use Rattle.algebra.specs.Layout.{numbers}
use Rattle.algebra.specs.Pair.{Pair}
use Rattle.ticket.specs.Sizes.{degrees_of}
use Rattle.ticket.specs.WellFormed.{Content}
use Rattle.patch.specs.FirstPatch.{turned, first_patch, all_carried, beginning, Begun}
use Rattle.patch.specs.declared.refusal.PatchRefusal.TheVariants.{Drift, Room}

module _ (drifts : Bool) (c : Content) (room : ℕ) where
  abbrev size : ℕ
  size = numbers (degrees_of c.axes)

  abbrev carried : Bool
  carried = all_carried drifts c.terms

  pub drift_refused : carried ≡ false → Err Drift ≡ beginning drifts c room
  drift_refused h = rw h refl

  pub room_refused : carried ≡ true → room < size → Err Room ≡ beginning drifts c room
  room_refused h l = rw (h, lt-leb size room l) refl

  pub begins : carried ≡ true → size ≤ room → Ok tt ≡ beginning drifts c room
  begins h l = rw (h, le-leb size room l) refl

-- a slice that begins with the first patch, and then goes on as it was
pub begun : {K : Type 0} (means : K → Pair) (c : Content) (old front : List K) (n : ℕ) → n ≡ numbers (degrees_of c.axes) → length front ≡ n → map means front ≡ first_patch (turned c) → Begun means c old (front ++ drop n old)
begun means c old front n e l h =
    let here : take n (front ++ drop n old) ≡ front = ap (λ k. take k (front ++ drop n old)) (sym l) ∙ take-append_seam front (drop n old) in
    let there : drop n (front ++ drop n old) ≡ drop n old = ap (λ k. drop k (front ++ drop n old)) (sym l) ∙ drop-append_seam front (drop n old) in
    record {
      first = ap (λ k. map means (take k (front ++ drop n old))) (sym e) ∙ ap (map means) here ∙ h;
      behind = subst (λ k. drop k (front ++ drop n old) ≡ drop k old) e there;
    }
