-- A case at its start: the whole box waits.
use Rattle.std.proofs.Common.{◌≡◌, ℕ, ◌≤◌, List, [], ◌∷◌, length, None, sym, refl, ap, ◌∙◌, subst, inr, zero-mul, arith}
use native.Mathlib.Nat.{sub-zero}
use Rattle.std.specs.List.{AllByRecursion}
use Rattle.std.proofs.lemmas.List.{length-take-le}
use Rattle.algebra.specs.Pair.{Pair}
use Rattle.ticket.specs.WellFormed.{Content}
use Rattle.ticket.specs.declared.records.Axis.{Axis}
use Rattle.patch.specs.Box.{Placed, whole_box}
use Rattle.patch.specs.FirstPatch.{turned, first_patch}
use Rattle.patch.specs.Halving.{part}
use Rattle.patch.proofs.Box.{whole_is_placed}
use Rattle.search.specs.Search.{level, whole}
use Rattle.search.proofs.Orderly.{Waits}
use Rattle.search.proofs.Pieces.{whole_level}
use Rattle.case.specs.Records.{box_of, whole_record}
use Rattle.case.specs.Sound.{Sound}
use Rattle.case.specs.Model.{pieces}
use Rattle.case.specs.declared.record.Record.{Record}

whole_record_has_whole_box : (axes : List Axis) → length axes ≤ 4 → box_of (length axes) whole_record ≡ whole_box axes
whole_record_has_whole_box [] l = refl
whole_record_has_whole_box (a ∷ []) l = refl
whole_record_has_whole_box (a ∷ b ∷ []) l = refl
whole_record_has_whole_box (a ∷ b ∷ c ∷ []) l = refl
whole_record_has_whole_box (a ∷ b ∷ c ∷ d ∷ []) l = refl
whole_record_has_whole_box (a ∷ b ∷ c ∷ d ∷ e ∷ more) l = absurd (omega arith)

module _ (axes : List Axis) (few : length axes ≤ 4) where
  not_halved : level (box_of (length axes) whole_record) ≡ 0
  not_halved = ap level (whole_record_has_whole_box axes few) ∙ whole_level axes

  whole_waits : (d : ℕ) → Waits (length axes) d 0 (box_of (length axes) whole_record)
  whole_waits d = record {
    part_for_each = length-take-le (length axes) whole_record few;
    placed = subst (AllByRecursion Placed) (sym (whole_record_has_whole_box axes few)) (whole_is_placed axes);
    shallow = omega (arith, not_halved);
    deep = omega arith;
  }

  pub start_is_sound : (d : ℕ) (recs : List Record) (r : Record) → r ≡ whole_record → recs ≡ r ∷ [] → ∥ Sound (length axes) d recs 0 0 0 None r ∥₁
  start_is_sound d recs r q e = subst (λ xs. ∥ Sound (length axes) d xs 0 0 0 None r ∥₁) (sym e) (subst (λ x. ∥ Sound (length axes) d (x ∷ []) 0 0 0 None x ∥₁) (sym q) ∣ record {
    stacked = (whole_waits d, tt);
    within = rw (not_halved, sub-zero) (omega arith);
    aside = omega arith;
    uncornered = inr refl;
    placed = whole_waits d;
  } ∣₁)

pub whole_waits_first : (c : Content) → length c.axes ≤ 4 → (size : ℕ) (recs : List Record) (work : List Pair) → recs ≡ whole_record ∷ [] → part 0 size work ≡ first_patch (turned c) →
    pieces (length c.axes) size recs work ≡ whole c ∷ []
unfolding whole
whole_waits_first c few size recs work e f =
    ap (λ xs. pieces (length c.axes) size xs work) e
    ∙ ap (λ n. record { box = box_of (length c.axes) whole_record; patch = part n size work } ∷ []) (zero-mul size)
    ∙ ap (λ b. record { box = b; patch = part 0 size work } ∷ []) (whole_record_has_whole_box c.axes few)
    ∙ ap (λ p. record { box = whole_box c.axes; patch = p } ∷ []) f
