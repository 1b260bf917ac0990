-- What is known of a case, and of its newest box.
use Rattle.std.proofs.Common.{◌≡◌, ℕ, suc, ◌+◌, ◌-◌, ◌^◌, ◌<◌, ◌≤◌, true, ◌&&◌, leb, List, [], ◌∷◌, length, Some, slice_get, sym, ap, ◌∙◌, subst, arith, pow_mono}
use mathlib.Core.Logic.{∥∥₁_elim, ∥∥₁_map}
use native.Mathlib.Bridge.{le_prop}
use lib.ListN.{length-map}
use Rattle.std.proofs.lemmas.Bool.{and_parts, leb-true}
use Rattle.algebra.specs.declared.half.Half.{Half}
use Rattle.number.specs.declared.number.Number.{Ghosts}
use Rattle.ticket.specs.Numbers.{is_depth}
use Rattle.ticket.specs.Sizes.{rest}
use Rattle.ticket.specs.WellFormed.{Content, Formed, all, axis_formed, term_formed}
use Rattle.search.specs.Search.{level}
use Rattle.search.specs.Courses.{ceiling}
use Rattle.search.proofs.Bounds.{ceiling_below}
use Rattle.search.proofs.Orderly.{full_is_ceiling, full_some}
use Rattle.case.specs.Records.{box_of}
use Rattle.case.specs.Held.{newest_halved}
use Rattle.case.specs.Sound.{Sound}
use Rattle.case.specs.Model.{ticket_of}
use Rattle.case.specs.declared.record.Record.{Record}
use Rattle.case.specs.declared.case.Case.{Case}
use Rattle.case.proofs.Newest.{newest_and_older}
use Rattle.case.proofs.Soundness.{left_is_sound, refuted_is_sound, halves_are_sound}

module _ (c : Content) (formed : Formed c) where
  axes_counted : (leb 1 (length c.axes) && leb (length c.axes) 4) ≡ true
  axes_counted = (and_parts (leb 1 (length c.axes) && leb (length c.axes) 4) (leb (length c.terms) 128 && (all axis_formed c.axes && (all (term_formed c.axes) c.terms && is_depth c.depth))) formed).0

  pub at_most_four_axes : length c.axes ≤ 4
  at_most_four_axes = leb-true (length c.axes) 4 (and_parts (leb 1 (length c.axes)) (leb (length c.axes) 4) axes_counted).1

module _ {K : Type 0} {N : Ghosts K} (k : Case K N) where
  abbrev pub axes : ℕ
  axes = length (ticket_of k).axes

  pub few_axes : axes ≤ 4
  few_axes = at_most_four_axes (ticket_of k) k.ticket.ticket.formed

  pub few_set_aside : k.aside_depth + k.aside_range ≤ k.examined
  few_set_aside = ∥∥₁_elim k.sound le_prop (λ t. t.aside)

  pub examined_within_ceiling : k.examined ≤ ceiling k.depth
  examined_within_ceiling = ∥∥₁_elim k.sound le_prop (λ t. omega (arith, t.within, full_is_ceiling k.depth))

  -- its newest box, and those that were put waiting before it
  module _ (r : Record) (on_top : slice_get k.waiting 0 ≡ Some r) where
    abbrev pub older : List Record
    older = rest k.waiting

    pub one_and_older : k.waiting ≡ r ∷ older
    one_and_older = newest_and_older k.waiting r on_top

    sound_on_top : ∥ Sound axes k.depth (r ∷ older) k.examined k.aside_depth k.aside_range k.corner k.found ∥₁
    sound_on_top = subst (λ rs. ∥ Sound axes k.depth rs k.examined k.aside_depth k.aside_range k.corner k.found ∥₁) one_and_older k.sound

    pub examined_fits : k.examined + 1 < 2 ^ 32
    examined_fits =
        let l : k.examined + 1 ≤ ceiling k.depth = ∥∥₁_elim sound_on_top le_prop (λ t. omega (arith, t.within, full_some (k.depth - level (box_of axes r)), full_is_ceiling k.depth)) in
        omega (arith, ceiling_below k.depth k.bounded, pow_mono {i = 25} {j = 32} (let l : 25 ≤ 32 = omega arith in l))

    pub aside_depth_fits : k.aside_depth + 1 < 2 ^ 32
    aside_depth_fits = omega (arith, few_set_aside, examined_fits)

    pub aside_range_fits : k.aside_range + 1 < 2 ^ 32
    aside_range_fits = omega (arith, few_set_aside, examined_fits)

    pub shallow : level (box_of axes r) ≤ k.depth
    shallow = ∥∥₁_elim sound_on_top le_prop (λ t. t.stacked.0.shallow)

    pub fewer_older_than_halvings : length older ≤ level (box_of axes r)
    fewer_older_than_halvings = ∥∥₁_elim sound_on_top le_prop (λ t. omega (arith, t.stacked.0.deep, length-map older (box_of axes)))

    -- ---- it stays sound
    module _ (rs : List Record) where
      pub left_sound : (deep large : ℕ) → rs ≡ older → deep + large ≤ suc (k.aside_depth + k.aside_range) → ∥ Sound axes k.depth rs (k.examined + 1) deep large k.corner k.found ∥₁
      left_sound deep large e h =
          subst (λ xs. ∥ Sound axes k.depth xs (k.examined + 1) deep large k.corner k.found ∥₁) (sym e)
          (∥∥₁_map sound_on_top (λ t. left_is_sound axes k.depth k.examined k.aside_depth k.aside_range r older k.corner k.found t deep large h))

      pub refuted_sound : (n : ℕ) → rs ≡ [] → ∥ Sound axes k.depth rs (k.examined + 1) k.aside_depth k.aside_range (Some n) r ∥₁
      refuted_sound n e =
          subst (λ xs. ∥ Sound axes k.depth xs (k.examined + 1) k.aside_depth k.aside_range (Some n) r ∥₁) (sym e)
          (∥∥₁_map sound_on_top (λ t. refuted_is_sound axes k.depth k.examined k.aside_depth k.aside_range r older k.corner k.found t n))

      pub split_sound : (j : ℕ) (h : Half) → j < axes → level (box_of axes r) < k.depth → rs ≡ newest_halved h j k.waiting → ∥ Sound axes k.depth rs (k.examined + 1) k.aside_depth k.aside_range k.corner k.found ∥₁
      split_sound j h inside deeper e =
          subst (λ xs. ∥ Sound axes k.depth xs (k.examined + 1) k.aside_depth k.aside_range k.corner k.found ∥₁) (sym (e ∙ ap (newest_halved h j) one_and_older))
          (∥∥₁_map sound_on_top (λ t. halves_are_sound axes k.depth k.examined k.aside_depth k.aside_range r older k.corner k.found t j inside deeper h))
