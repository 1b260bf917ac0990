-- The sizes of a sized ticket are below the cap, so they are the sizes themselves.
use Rattle.std.proofs.Common.{◌≡◌, ℕ, zero, suc, ◌^◌, ◌<◌, ◌≤◌, true, ◌&&◌, leb, List, [], ◌∷◌, length, get_or, mul-le-mul, arith, lit≤}
use native.Mathlib.Nat.{pow-le-pow_right, pow-succ', pow-zero}
use Rattle.std.specs.List.{AllByRecursion}
use Rattle.std.proofs.lemmas.Bool.{and_parts, leb-true}
use Rattle.number.specs.Limits.{word}
use Rattle.ticket.specs.Capped.{capped}
use Rattle.ticket.specs.Numbers.{is_depth}
use Rattle.ticket.specs.Sizes.{common, scale, patch_count, value_size, drift_size, is_patch, is_sized}
use Rattle.ticket.specs.WellFormed.{all, axis_formed, term_formed, well_formed}
use Rattle.ticket.specs.declared.records.Axis.{Axis}
use Rattle.ticket.specs.declared.records.Term.{Term}

below_cap : (n m : ℕ) → n ≡ capped m → m < 2 ^ 62 → n ≡ m
below_cap n m e h = omega arith

pub patch_is : (axes : List Axis) (n : ℕ) → is_patch axes ≡ true → n ≡ capped (patch_count axes) → n ≡ patch_count axes
patch_is axes n few e = below_cap n (patch_count axes) e (omega (arith, leb-true (patch_count axes) 128 few))

-- ---- both sizes are at most 2^62 - 1
module _ (axes : List Axis) (terms : List Term) (n : ℕ) (small : is_sized axes terms ≡ true) where
  both : (leb (value_size axes terms) word ≡ true) × (leb (drift_size axes terms) word ≡ true)
  both = and_parts (leb (value_size axes terms) word) (leb (drift_size axes terms) word) small

  pub value_is : n ≡ capped (value_size axes terms) → n ≡ value_size axes terms
  value_is e = below_cap n (value_size axes terms) e (omega (arith, leb-true (value_size axes terms) word both.0))

  pub drift_is : n ≡ capped (drift_size axes terms) → n ≡ drift_size axes terms
  drift_is e = below_cap n (drift_size axes terms) e (omega (arith, leb-true (drift_size axes terms) word both.1))

-- ---- the scale of four axes is at most 280^4
entry_below : (xs : List ℕ) (n : ℕ) → AllByRecursion (λ x. x ≤ 280) xs → get_or xs n 1 ≤ 280
entry_below [] n h = omega arith
entry_below (x ∷ xs) zero h = h.0
entry_below (x ∷ xs) (suc n) h = entry_below xs n h.1

common_below : (n : ℕ) → common n ≤ 280
common_below n = entry_below (1 ∷ 1 ∷ 2 ∷ 3 ∷ 12 ∷ 10 ∷ 60 ∷ 105 ∷ 280 ∷ []) n (lit≤ tt, (lit≤ tt, (lit≤ tt, (lit≤ tt, (lit≤ tt, (lit≤ tt, (lit≤ tt, (lit≤ tt, (lit≤ tt, tt)))))))))

scale_below : (axes : List Axis) → scale axes ≤ 280 ^ length axes
scale_below [] = omega (arith, pow-zero 280)
scale_below (a ∷ axes) = omega (arith, mul-le-mul (common_below a.degree) (scale_below axes), pow-succ' 280 (length axes))

pub few_axes : (axes : List Axis) (terms : List Term) (depth : ℕ) → well_formed axes terms depth ≡ true → length axes ≤ 4
few_axes axes terms depth formed =
    let p = and_parts (leb 1 (length axes) && leb (length axes) 4) (leb (length terms) 128 && (all axis_formed axes && (all (term_formed axes) terms && is_depth depth))) formed in
    leb-true (length axes) 4 (and_parts (leb 1 (length axes)) (leb (length axes) 4) p.0).1

pub scale_is : (axes : List Axis) (terms : List Term) (depth n : ℕ) → well_formed axes terms depth ≡ true → n ≡ capped (scale axes) → n ≡ scale axes
scale_is axes terms depth n formed e =
    let few = few_axes axes terms depth formed in
    let most : 280 ^ length axes ≤ 280 ^ 4 = pow-le-pow_right {n = 280} (omega arith) few in
    below_cap n (scale axes) e (omega (arith, scale_below axes))
