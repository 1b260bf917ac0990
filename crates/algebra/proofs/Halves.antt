-- The halves of a patch in a list are the halves of its form.
use Rattle.std.proofs.Common.{◌≡◌, ℕ, zero, suc, ◌<◌, List, [], ◌∷◌, length, get_or, pos, refl, ap, ◌∙◌, subst, ap₂, arith}
use mathlib.Core.Path.{fun_ext}
use lib.ListN.{length-map}
use Rattle.std.proofs.lemmas.List.FromFn.{get_or-map-range_with_len}
use Rattle.algebra.specs.Module.{Ops, pow}
use Rattle.algebra.specs.Form.{Axis, degrees, Index, toward, change, form, half, half_along}
use Rattle.algebra.specs.Layout.{numbers, place_of, patch, flat_half_at, flat_half}
use Rattle.algebra.specs.declared.half.Half.{Half}
use Rattle.algebra.specs.declared.half.Half.TheVariants.{Lower, Upper}
use Rattle.algebra.proofs.Module.{Module}
use Rattle.algebra.proofs.Form.{form_cong, form_halves}
use Rattle.algebra.proofs.Places.{place_below, along_is, base_is}

toward_degree : (h : Half) (x : Axis) → (toward h x).degree ≡ x.degree
toward_degree Lower x = refl
toward_degree Upper x = refl

pub change_degrees : (h : Half) (j : ℕ) (xs : List Axis) → degrees (change j (toward h) xs) ≡ degrees xs
change_degrees h j [] = refl
change_degrees h zero (x ∷ xs) = ap (λ n. n ∷ degrees xs) (toward_degree h x)
change_degrees h (suc j) (x ∷ xs) = ap (λ ns. x.degree ∷ ns) (change_degrees h j xs)

module _ {V : Type 0} {O : Ops V} (M : Module O) where
  open O use {nought, times}

  pub flat_half_is_half : (h : Half) (ns ks : List ℕ) (j : ℕ) (b : List V) → Index ns ks → j < length ns → patch O ns (flat_half O h ns j b) ks ≡ half_along O h ns j (patch O ns b) ks
  flat_half_is_half h ns ks j b w l =
      get_or-map-range_with_len (flat_half_at O h ns j b) 0 (numbers ns) (place_of ns ks) (place_of ns ks) nought (place_below ns ks w) (omega arith)
      ∙ ap₂ (half O h (get_or ns j 0)) (fun_ext (λ r. ap (λ i. get_or b i nought) (base_is ns ks j w l r))) (along_is ns ks j w l)

  pub flat_half_evaluates : (h : Half) (xs : List Axis) (j : ℕ) (b : List V) → j < length xs →
      form O (change j (toward h) xs) (patch O (degrees xs) (flat_half O h (degrees xs) j b)) ≡ times (pow (pos 2) (get_or (degrees xs) j 0)) (form O xs (patch O (degrees xs) b))
  flat_half_evaluates h xs j b l =
      let ns : List ℕ = degrees xs in
      form_cong M (change j (toward h) xs) (patch O ns (flat_half O h ns j b)) (half_along O h ns j (patch O ns b))
      (λ ks w. flat_half_is_half h ns ks j b (subst (λ ms. Index ms ks) (change_degrees h j xs) w) (omega (arith, length-map xs (λ x. x.degree))))
      ∙ form_halves M h xs j (patch O ns b)
