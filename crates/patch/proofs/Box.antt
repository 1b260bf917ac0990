-- A point seen from the ends of a box and of its halves; the factor of a box; no point between the ends is lost by halving.
use Rattle.std.proofs.Common.{◌≡◌, ℕ, zero, suc, ◌*◌, ◌<◌, ◌≤◌, Bool, true, false, ◌&&◌, T, ◌⊎◌, List, [], ◌∷◌, length, get_or, ℤ, pos, ◌+ℤ◌, ◌-ℤ◌, ◌*ℤ◌, ◌≤ℤ◌, ◌<ℤ◌, sym, refl, ap, ◌∙◌, subst, inl, inr, pow-suc, mul-suc, arith}
use Rattle.std.specs.List.{AllByRecursion}
use Rattle.std.proofs.lemmas.Int.{ints, by_lt_z}
use Rattle.algebra.specs.Module.{pow}
use Rattle.algebra.specs.Form.{Axis as Distances, axis, degrees, Between, toward, change}
use Rattle.algebra.specs.declared.half.Half.{Half}
use Rattle.algebra.specs.declared.half.Half.TheVariants.{Lower, Upper}
use Rattle.algebra.proofs.Integers.{pos-*, nonneg-*}
use Rattle.algebra.proofs.Powers.{pow_add, pow_positive}
use Rattle.algebra.proofs.Ring.{both, Expr, con, ◌⊕◌, ◌⊗◌, ◌⊖◌, ring, x₀, x₁, x₂, x₃, x₄, x₅}
use Rattle.ticket.specs.WellFormed.{Content, Formed}
use Rattle.ticket.specs.declared.records.Axis.{Axis}
use Rattle.patch.specs.Point.{Point, OnAxes, UpTo, LiesIn}
use Rattle.patch.specs.Box.{Part, Box, Placed, entire, whole_box, half_part, half_box, seen, seen_all, BetweenEnds, factor}
use Rattle.patch.proofs.Formed.{Sound, axes_sound}
use Rattle.ticket.specs.Sizes.{common, degrees_of, rest}

-- ---- the degrees are the axes' own
pub seen_degrees : (axes : List Axis) (box : Box) (us : List ℤ) (w : ℤ) → degrees (seen_all axes box us w) ≡ degrees_of axes
seen_degrees [] box us w = refl
seen_degrees (a ∷ more) box us w = ap (λ ns. a.degree ∷ ns) (seen_degrees more (rest box) (rest us) w)

pub seen_length : (axes : List Axis) (box : Box) (us : List ℤ) (w : ℤ) → length (seen_all axes box us w) ≡ length axes
seen_length [] box us w = refl
seen_length (a ∷ more) box us w = ap suc (seen_length more (rest box) (rest us) w)

-- ---- one axis: what x₀ .. x₅ stand for, and the two distances of a point from the ends of a part by its power P and its place Q
abbrev known : Axis → Part → ℤ → ℤ → List ℤ
known a x u w = pow (pos 2) x.halvings ∷ u ∷ a.lower ∷ w ∷ pos x.place ∷ a.upper ∷ []

abbrev from_lower : Expr → Expr → Expr
from_lower P Q = P ⊗ x₁ ⊖ (x₂ ⊗ P ⊕ (x₅ ⊖ x₂) ⊗ Q) ⊗ x₃

abbrev from_upper : Expr → Expr → Expr
from_upper P Q = (x₂ ⊗ P ⊕ (x₅ ⊖ x₂) ⊗ (Q ⊕ con (pos 1))) ⊗ x₃ ⊖ P ⊗ x₁

axis-≡ : (n : ℕ) {s s' t t' : ℤ} → s ≡ s' → t ≡ t' → axis n s t ≡ axis n s' t'
axis-≡ n p q = λ i. axis n (p i) (q i)

module _ (a : Axis) (u w : ℤ) where
  pub seen_entire : seen a entire u w ≡ axis a.degree (u -ℤ a.lower *ℤ w) (a.upper *ℤ w -ℤ u)
  seen_entire =
      axis-≡ a.degree (ring (known a entire u w) (from_lower (con (pos 1)) (con (pos 0))) (x₁ ⊖ x₂ ⊗ x₃) tt)
      (ring (known a entire u w) (from_upper (con (pos 1)) (con (pos 0))) (x₅ ⊗ x₃ ⊖ x₁) tt)

  module _ (x : Part) where
    pub seen_half : (h : Half) → seen a (half_part h x) u w ≡ toward h (seen a x u w)
    seen_half Lower =
        axis-≡ a.degree (ring (known a x u w) (from_lower (con (pos 2) ⊗ x₀) (con (pos 2) ⊗ x₄)) (con (pos 2) ⊗ from_lower x₀ x₄) tt)
        (ring (known a x u w) (from_upper (con (pos 2) ⊗ x₀) (con (pos 2) ⊗ x₄)) (from_upper x₀ x₄ ⊖ from_lower x₀ x₄) tt)
    seen_half Upper =
        axis-≡ a.degree (ring (known a x u w) (from_lower (con (pos 2) ⊗ x₀) (con (pos 2) ⊗ x₄ ⊕ con (pos 1))) (from_lower x₀ x₄ ⊖ from_upper x₀ x₄) tt)
        (ring (known a x u w) (from_upper (con (pos 2) ⊗ x₀) (con (pos 2) ⊗ x₄ ⊕ con (pos 1))) (con (pos 2) ⊗ from_upper x₀ x₄) tt)

    -- the ends are as far apart as those of the axis
    pub seen_apart : a.lower <ℤ a.upper → pos 0 <ℤ w → pos 0 <ℤ ((seen a x u w).s +ℤ (seen a x u w).t)
    seen_apart h k =
        let both : (seen a x u w).s +ℤ (seen a x u w).t ≡ (a.upper -ℤ a.lower) *ℤ w = ring (known a x u w) (from_lower x₀ x₄ ⊕ from_upper x₀ x₄) ((x₅ ⊖ x₂) ⊗ x₃) tt in
        subst (λ z. pos 0 <ℤ z) (sym both) (pos-* (a.upper -ℤ a.lower) w (omega (arith, ints)) k)

-- ---- halves of a box
pub seen_half_box : (h : Half) (axes : List Axis) (box : Box) (j : ℕ) (us : List ℤ) (w : ℤ) → j < length box → seen_all axes (half_box h j box) us w ≡ change j (toward h) (seen_all axes box us w)
seen_half_box h [] box j us w l = refl
seen_half_box h (a ∷ more) [] j us w l = absurd (omega arith)
seen_half_box h (a ∷ more) (x ∷ box) zero us w l = ap (λ y. y ∷ seen_all more box (rest us) w) (seen_half a (get_or us 0 (pos 0)) w x h)
seen_half_box h (a ∷ more) (x ∷ box) (suc j) us w l = ap (λ ys. seen a x (get_or us 0 (pos 0)) w ∷ ys) (seen_half_box h more box j (rest us) w (omega arith))

pub half_length : (h : Half) (j : ℕ) (box : Box) → length (half_box h j box) ≡ length box
half_length h j [] = refl
half_length h zero (x ∷ box) = refl
half_length h (suc j) (x ∷ box) = ap suc (half_length h j box)

-- ---- the factor
two_more : (n h : ℕ) → pow (pos 2) (n * suc h) ≡ pow (pos 2) (n * h) *ℤ pow (pos 2) n
two_more n h = ap (pow (pos 2)) (mul-suc n h) ∙ pow_add (pos 2) (n * h) n

pub factor_half : (h : Half) (axes : List Axis) (box : Box) (j : ℕ) → j < length box → factor axes (half_box h j box) ≡ pow (pos 2) (get_or (degrees_of axes) j 0) *ℤ factor axes box
factor_half h [] box j l = refl
factor_half h (a ∷ more) [] j l = absurd (omega arith)
factor_half h (a ∷ more) (x ∷ box) zero l =
    let n : ℕ = a.degree in
    let d : ℤ = pow (a.upper -ℤ a.lower) n in
    ap (λ z. pos (common n) *ℤ z *ℤ d *ℤ factor more box) (two_more n x.halvings)
    ∙ ring (pos (common n) ∷ pow (pos 2) (n * x.halvings) ∷ pow (pos 2) n ∷ d ∷ factor more box ∷ []) (x₀ ⊗ (x₁ ⊗ x₂) ⊗ x₃ ⊗ x₄) (x₂ ⊗ (x₀ ⊗ x₁ ⊗ x₃ ⊗ x₄)) tt
factor_half h (a ∷ more) (x ∷ box) (suc j) l =
    let own : ℤ = pos (common a.degree) *ℤ pow (pos 2) (a.degree * x.halvings) *ℤ pow (a.upper -ℤ a.lower) a.degree in
    let p : ℤ = pow (pos 2) (get_or (degrees_of more) j 0) in
    ap (λ z. own *ℤ z) (factor_half h more box j (omega arith)) ∙ ring (own ∷ p ∷ factor more box ∷ []) (x₀ ⊗ (x₁ ⊗ x₂)) (x₁ ⊗ (x₀ ⊗ x₂)) tt

-- ---- the table of common multiples
abbrev all_below : ℕ → (ℕ → Bool) → Bool
all_below zero p = true
all_below (suc n) p = p 0 && all_below n (λ i. p (suc i))

at_each : (n : ℕ) (p : ℕ → Bool) → T (all_below n p) → (i : ℕ) → i < n → T (p i)
at_each zero p t i h = absurd (omega arith)
at_each (suc n) p t zero h = (both (p 0) (all_below n (λ i. p (suc i))) t).0
at_each (suc n) p t (suc i) h = at_each n (λ i. p (suc i)) (both (p 0) (all_below n (λ i. p (suc i))) t).1 i (omega arith)

pub common_positive : (n : ℕ) → n ≤ 8 → 0 < common n
common_positive n h = some_left (common n) (at_each 9 (λ n. some (common n)) tt n (omega arith))
  where
    some : ℕ → Bool
    some zero = false
    some (suc n) = true

    some_left : (n : ℕ) → T (some n) → 0 < n
    some_left zero t = absurd t
    some_left (suc n) t = omega arith

pub factor_positive : (axes : List Axis) (box : Box) → AllByRecursion Sound axes → pos 0 <ℤ factor axes box
factor_positive [] box h = omega (arith, ints)
factor_positive (a ∷ more) box h =
    let n : ℕ = a.degree in
    let own : pos 0 <ℤ pos (common n) = omega (arith, ints, common_positive n h.0.small) in
    let two : pos 0 <ℤ pow (pos 2) (n * (get_or box 0 entire).halvings) = pow_positive (pos 2) (n * (get_or box 0 entire).halvings) (omega (arith, ints)) in
    let wide : pos 0 <ℤ pow (a.upper -ℤ a.lower) n = pow_positive (a.upper -ℤ a.lower) n (omega (arith, ints, h.0.apart)) in
    pos-* _ _ (pos-* _ _ (pos-* _ _ own two) wide) (factor_positive more (rest box) h.1)

-- ---- no point is lost
up_to_least : (o : Bool) (x y : ℤ) → UpTo o x y → x ≤ℤ y
up_to_least true x y h = omega (arith, ints)
up_to_least false x y h = h

on_axes_between : (axes : List Axis) (us : List ℤ) (w : ℤ) → AllByRecursion Sound axes → pos 0 <ℤ w → OnAxes axes us w → AllByRecursion Between (seen_all axes (whole_box axes) us w)
on_axes_between [] us w s k h = tt
on_axes_between (a ∷ more) [] w s k h = absurd h
on_axes_between (a ∷ more) (u ∷ us) w s k h =
    let lower : (a.lower *ℤ w) ≤ℤ u = up_to_least a.lower_open (a.lower *ℤ w) u h.0.from_lower in
    let upper : u ≤ℤ (a.upper *ℤ w) = up_to_least a.upper_open u (a.upper *ℤ w) h.0.to_upper in
    let here : Between (seen a entire u w) = record {
      above = subst (λ y. pos 0 ≤ℤ y.s) (sym (seen_entire a u w)) (omega (arith, ints));
      below = subst (λ y. pos 0 ≤ℤ y.t) (sym (seen_entire a u w)) (omega (arith, ints));
      apart = seen_apart a u w entire s.0.apart k;
    } in
    (here, on_axes_between more us w s.1 k h.1)

pub whole_covers : (c : Content) (p : Point) → Formed c → LiesIn c.axes p → BetweenEnds c.axes (whole_box c.axes) p
whole_covers c p formed h = on_axes_between c.axes p.numerators (pos p.denominator) (axes_sound c formed) (omega (arith, ints, h.some_denominator)) h.on_axes

-- a point is not beyond the middle, or not before it
half_between : (x : Distances) → Between x → Between (toward Lower x) ⊎ Between (toward Upper x)
half_between x b =
    by_lt_z x.t x.s
    (λ h. inr (record { above = omega (arith, ints); below = nonneg-* (pos 2) x.t (omega (arith, ints)) b.below; apart = omega (arith, ints, b.apart) }))
    (λ h. inl (record { above = nonneg-* (pos 2) x.s (omega (arith, ints)) b.above; below = omega (arith, ints); apart = omega (arith, ints, b.apart) }))

halves_between : (axes : List Axis) (box : Box) (j : ℕ) (us : List ℤ) (w : ℤ) → AllByRecursion Between (seen_all axes box us w) → AllByRecursion Between (seen_all axes (half_box Lower j box) us w) ⊎ AllByRecursion Between (seen_all axes (half_box Upper j box) us w)
halves_between [] box j us w b = inl tt
halves_between (a ∷ more) [] j us w b = inl b
halves_between (a ∷ more) (x ∷ box) zero us w b =
    let back : (h : Half) → Between (toward h (seen a x (get_or us 0 (pos 0)) w)) → Between (seen a (half_part h x) (get_or us 0 (pos 0)) w) = λ h. subst Between (sym (seen_half a (get_or us 0 (pos 0)) w x h)) in
    elim (half_between (seen a x (get_or us 0 (pos 0)) w) b.0) [ inl y ↦ inl (back Lower y, b.1) | inr y ↦ inr (back Upper y, b.1) ]
halves_between (a ∷ more) (x ∷ box) (suc j) us w b = elim (halves_between more box j (rest us) w b.1) [ inl y ↦ inl (b.0, y) | inr y ↦ inr (b.0, y) ]

pub halves_cover : (axes : List Axis) (box : Box) (j : ℕ) (p : Point) → BetweenEnds axes box p → BetweenEnds axes (half_box Lower j box) p ⊎ BetweenEnds axes (half_box Upper j box) p
halves_cover axes box j p b = halves_between axes box j p.numerators (pos p.denominator) b

-- ---- places
pub whole_is_placed : (axes : List Axis) → AllByRecursion Placed (whole_box axes)
whole_is_placed [] = tt
whole_is_placed (a ∷ more) = (omega arith, whole_is_placed more)

part_is_placed : (h : Half) (x : Part) → Placed x → Placed (half_part h x)
part_is_placed Lower x p = omega (arith, pow-suc 2 x.halvings)
part_is_placed Upper x p = omega (arith, pow-suc 2 x.halvings)

pub half_is_placed : (h : Half) (j : ℕ) (box : Box) → AllByRecursion Placed box → AllByRecursion Placed (half_box h j box)
half_is_placed h j [] p = tt
half_is_placed h zero (x ∷ box) p = (part_is_placed h x p.0, p.1)
half_is_placed h (suc j) (x ∷ box) p = (p.0, half_is_placed h j box p.1)
