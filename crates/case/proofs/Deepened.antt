-- A search that starts anew at a greater depth.
use Rattle.std.proofs.Common.{◌≡◌, ℕ, ◌+◌, ◌≤◌, Bool, true, false, cond, not, ◌&&◌, ltb, leb, List, map, take, is_some, None, Ok, Err, Result, refl, ap, ◌∙◌, mul-le-mul_right, one-mul, arith}
use Rattle.std.specs.Result.{is_ok}
use Rattle.std.proofs.lemmas.List.{take-map}
use Rattle.std.proofs.lemmas.Bool.{and_parts, leb-true, le-leb}
use Rattle.algebra.specs.Layout.{numbers}
use Rattle.algebra.specs.Pair.{Pair}
use Rattle.ticket.specs.Numbers.{is_depth}
use Rattle.ticket.specs.Sizes.{degrees_of, patch_count}
use Rattle.ticket.specs.WellFormed.{Content}
use Rattle.patch.specs.FirstPatch.{turned, first_patch, all_carried, may_begin, beginning, Begun}
use Rattle.patch.specs.Halving.{part}
use Rattle.patch.specs.declared.refusal.PatchRefusal.{PatchRefusal}
use Rattle.patch.specs.declared.refusal.PatchRefusal.TheVariants.{Drift, Room}
use Rattle.chooser.specs.Choice.{Meaning}
use Rattle.search.specs.Search.{Search, start, word}
use Rattle.search.specs.Calls.{is_open, has_room, checked, refusal, next}
use Rattle.search.specs.declared.call.Call.TheVariants.{Deepen}
use Rattle.search.specs.declared.call.CallRefusal.TheVariants.{Workspace, NotOpen, NotDeeper}
use Rattle.search.proofs.Keeping.{void}
use Rattle.case.proofs.Ran.{room_is_there}

module _ (c : Content) (len d : ℕ) (s : Search) (granted : None ≡ refusal c len s (Deepen d)) where
  tests_passed : ((ltb s.depth d && is_depth d) ≡ true) × (has_room c len d ≡ true)
  tests_passed = by_tests (is_open (word s)) (ltb s.depth d && is_depth d) (has_room c len d) granted
    where
      by_tests : (a b r : Bool) → None ≡ checked a NotOpen (checked b NotDeeper (checked r Workspace None)) → (b ≡ true) × (r ≡ true)
      by_tests true true true e = (refl, refl)
      by_tests true true false e = absurd (void (cc))
      by_tests true false r e = absurd (void (cc))
      by_tests false b r e = absurd (void (cc))

  pub deepened_within_24 : d ≤ 24
  deepened_within_24 = leb-true d 24 (and_parts (ltb s.depth d) (is_depth d) tests_passed.0).1

  -- there is room for the first patch
  may_begin_anew : (drifts : Bool) → all_carried drifts c.terms ≡ true → may_begin drifts c len ≡ true
  may_begin_anew drifts carried =
      let l : 1 ≤ d + 3 = omega arith in
      let h : numbers (degrees_of c.axes) ≤ len = omega (arith, room_is_there c len d tests_passed.1, mul-le-mul_right (patch_count c.axes) l, one-mul (patch_count c.axes)) in
      ap (λ b. b && leb (numbers (degrees_of c.axes)) len) carried ∙ le-leb (numbers (degrees_of c.axes)) len h

  -- so a kind of number that carries the drifts is not refused it
  pub is_begun_anew : (drifts : Bool) (result : Result (Unit {0}) PatchRefusal) → result ≡ beginning drifts c len → all_carried drifts c.terms ≡ true → is_ok result ≡ true
  is_begun_anew drifts result e carried = ap is_ok (e ∙ ap (λ b. cond b (Ok tt) (Err (cond (all_carried drifts c.terms) Room Drift))) (may_begin_anew drifts carried))

  pub deepened_next : (limit : ℕ) (μ : Meaning) → start c d ≡ next c limit μ len s (Deepen d)
  deepened_next limit μ = ap (λ o. cond (not (is_some o)) (start c d) s) granted

pub first_patch_is_begun : {K : Type 0} (f : K → Pair) (c : Content) (size : ℕ) (old new : List K) → size ≡ patch_count c.axes → Begun f c old new → part 0 size (map f new) ≡ first_patch (turned c)
first_patch_is_begun f c size old new e b = ap (λ n. take n (map f new)) e ∙ take-map f (patch_count c.axes) new ∙ b.first
