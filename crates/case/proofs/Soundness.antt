-- What is sound about a case is kept, whatever becomes of its newest box.
use Rattle.std.proofs.Common.{◌≡◌, ℕ, suc, ◌+◌, ◌-◌, ◌<◌, ◌≤◌, ◌⊎◌, List, [], ◌∷◌, length, Some, None, Option, sym, refl, ap, ◌∙◌, subst, inl, inr, arith}
use Rattle.std.specs.List.{AllByRecursion}
use Rattle.algebra.specs.Form.{other}
use Rattle.algebra.specs.declared.half.Half.{Half}
use Rattle.patch.specs.Box.{Placed, half_box}
use Rattle.patch.proofs.Box.{half_is_placed, half_length}
use Rattle.search.specs.Search.{level}
use Rattle.search.proofs.Keeping.{void}
use Rattle.search.proofs.Orderly.{full, full_some, Waits}
use Rattle.search.proofs.Pieces.{half_level}
use Rattle.case.specs.Records.{box_of}
use Rattle.case.specs.Sound.{Sound}
use Rattle.case.specs.declared.record.Record.{Record}
use Rattle.case.proofs.BoxOf.{half_has_box}

-- ---- the newest box
module _ (m d e a b : ℕ) (r : Record) (rs : List Record) (k : Option ℕ) (f : Record) (s : Sound m d (r ∷ rs) e a b k f) where
  still_uncornered : (recs : List Record) → ((r ∷ rs) ≡ []) ⊎ (k ≡ None) → (recs ≡ []) ⊎ (k ≡ None)
  still_uncornered recs (inl z) = absurd (void (cc))
  still_uncornered recs (inr z) = inr z

  -- it leaves: its own cost, at least 1, is paid
  pub left_is_sound : (deep large : ℕ) → deep + large ≤ suc (a + b) → Sound m d rs (e + 1) deep large k f
  left_is_sound deep large h = record {
    stacked = s.stacked.1;
    within = omega (arith, s.within, full_some (d - level (box_of m r)));
    aside = omega (arith, s.aside);
    uncornered = still_uncornered rs s.uncornered;
    placed = s.placed;
  }

  pub refuted_is_sound : (n : ℕ) → Sound m d [] (e + 1) a b (Some n) r
  refuted_is_sound n =
      let w = s.stacked.0 in
      record {
        stacked = tt;
        within = omega (arith, s.within, full_some (d - level (box_of m r)));
        aside = omega (arith, s.aside);
        uncornered = inl refl;
        placed = record { part_for_each = w.part_for_each; placed = w.placed; shallow = w.shallow; deep = omega arith };
      }

  module _ (j : ℕ) (inside : j < m) (shallow : level (box_of m r) < d) where
    half_has_level : (h : Half) → level (box_of m (half_box h j r)) ≡ suc (level (box_of m r))
    half_has_level h = ap level (half_has_box m h j r) ∙ half_level h j (box_of m r) (omega (arith, s.stacked.0.part_for_each))

    half_waits : (h : Half) (older : ℕ) → older ≤ suc (level (box_of m r)) → Waits m d older (box_of m (half_box h j r))
    half_waits h older l = record {
      part_for_each = ap length (half_has_box m h j r) ∙ half_length h j (box_of m r) ∙ s.stacked.0.part_for_each;
      placed = subst (AllByRecursion Placed) (sym (half_has_box m h j r)) (half_is_placed h j (box_of m r) s.stacked.0.placed);
      shallow = omega (arith, half_has_level h);
      deep = omega (arith, half_has_level h);
    }

    pub halves_are_sound : (h : Half) → Sound m d (half_box h j r ∷ half_box (other h) j r ∷ rs) (e + 1) a b k f
    halves_are_sound h =
        let w = s.stacked.0 in
        let twice : full (d - level (box_of m r)) ≡ suc (full (d - suc (level (box_of m r))) + full (d - suc (level (box_of m r)))) =
        let z : d - level (box_of m r) ≡ suc (d - suc (level (box_of m r))) = omega arith in rw z in
        record {
          stacked = (half_waits h _ (omega (arith, w.deep)), (half_waits (other h) _ (omega (arith, w.deep)), s.stacked.1));
          within = rw (half_has_level h, half_has_level (other h)) (omega (arith, s.within));
          aside = omega (arith, s.aside);
          uncornered = still_uncornered _ s.uncornered;
          placed = s.placed;
        }
