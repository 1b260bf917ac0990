-- The layout of a patch in a list: places and indices, and strides.
use Rattle.std.proofs.Common.{◌≡◌, ℕ, zero, suc, ◌+◌, ◌-◌, ◌*◌, ◌/◌, ◌%◌, ◌<◌, ◌≤◌, List, [], ◌∷◌, length, get_or, set, pos, sym, refl, ap, ◌∙◌, ap₂, mod-lt, suc-mul, div-lt_iff_lt-mul, mul-pos, div-add-mod', arith}
use lib.Arith.{digits_lt, digits_div, digits_mod}
use Rattle.algebra.specs.Form.{Index}
use Rattle.algebra.specs.Layout.{numbers, place_of, index_of, stride, along, base}
use Rattle.algebra.proofs.Integers.{natural}
use Rattle.algebra.proofs.Ring.{con, ◌⊕◌, ◌⊗◌, ring, x₀, x₁, x₂, x₃, x₄, x₅, x₆}

-- ---- places and indices: the digits of a number in a mixed base
pub numbers_positive : (ns : List ℕ) → 0 < numbers ns
numbers_positive [] = omega arith
numbers_positive (n ∷ ns) = mul-pos (omega arith) (numbers_positive ns)

pub place_below : (ns ks : List ℕ) → Index ns ks → place_of ns ks < numbers ns
place_below [] [] w = omega arith
place_below [] (k ∷ ks) w = absurd w
place_below (n ∷ ns) [] w = absurd w
place_below (n ∷ ns) (k ∷ ks) w = let h : k < suc n = omega arith in digits_lt h (place_below ns ks w.1)

pub index_of_place : (ns ks : List ℕ) → Index ns ks → index_of ns (place_of ns ks) ≡ ks
index_of_place [] [] w = refl
index_of_place [] (k ∷ ks) w = absurd w
index_of_place (n ∷ ns) [] w = absurd w
index_of_place (n ∷ ns) (k ∷ ks) w =
    let h : place_of ns ks < numbers ns = place_below ns ks w.1 in
    ap₂ ◌∷◌ (digits_div k h) (ap (index_of ns) (digits_mod k h) ∙ index_of_place ns ks w.1)

pub place_of_index : (ns : List ℕ) (i : ℕ) → i < numbers ns → place_of ns (index_of ns i) ≡ i
place_of_index [] i h = omega arith
place_of_index (n ∷ ns) i h =
    ap (λ z. i / numbers ns * numbers ns + z) (place_of_index ns (i % numbers ns) (mod-lt i (numbers_positive ns))) ∙ div-add-mod' i (numbers ns)

pub index_is_index : (ns : List ℕ) (i : ℕ) → i < numbers ns → Index ns (index_of ns i)
index_is_index [] i h = tt
index_is_index (n ∷ ns) i h =
    let d : i / numbers ns < suc n = (div-lt_iff_lt-mul (numbers_positive ns)).1 h in
    (omega arith, index_is_index ns (i % numbers ns) (mod-lt i (numbers_positive ns)))

-- ---- one index changed
pub index_at : (ns ks : List ℕ) (j : ℕ) → Index ns ks → get_or ks j 0 ≤ get_or ns j 0
index_at [] [] j w = omega arith
index_at [] (k ∷ ks) j w = absurd w
index_at (n ∷ ns) [] j w = absurd w
index_at (n ∷ ns) (k ∷ ks) zero w = w.0
index_at (n ∷ ns) (k ∷ ks) (suc j) w = index_at ns ks j w.1

pub index_set : (ns ks : List ℕ) (j r : ℕ) → Index ns ks → r ≤ get_or ns j 0 → Index ns (set ks j r)
index_set [] [] j r w h = tt
index_set [] (k ∷ ks) j r w h = absurd w
index_set (n ∷ ns) [] j r w h = absurd w
index_set (n ∷ ns) (k ∷ ks) zero r w h = (h, w.1)
index_set (n ∷ ns) (k ∷ ks) (suc j) r w h = (w.0, index_set ns ks j r w.1 h)

set_same : (j : ℕ) (ks : List ℕ) → set ks j (get_or ks j 0) ≡ ks
set_same j [] = refl
set_same zero (k ∷ ks) = refl
set_same (suc j) (k ∷ ks) = ap (λ z. k ∷ z) (set_same j ks)

-- ---- strides: a place is (outer · (n + 1) + r) · stride + inner, where r is the index along axis j and n its degree
outer_numbers : (ns : List ℕ) (j : ℕ) → j < length ns → (a : ℕ) × (numbers ns ≡ a * suc (get_or ns j 0) * stride ns j)
outer_numbers [] j h = absurd (omega arith)
outer_numbers (n ∷ ns) zero h = (1, natural (ring (pos (suc n) ∷ pos (numbers ns) ∷ []) (x₀ ⊗ x₁) (con (pos 1) ⊗ x₀ ⊗ x₁) tt))
outer_numbers (n ∷ ns) (suc j) h =
    let d : (a : ℕ) × (numbers ns ≡ a * suc (get_or ns j 0) * stride ns j) = outer_numbers ns j (omega arith) in
    (suc n * d.0, ap (λ z. suc n * z) d.1 ∙ natural (ring (pos (suc n) ∷ pos d.0 ∷ pos (suc (get_or ns j 0)) ∷ pos (stride ns j) ∷ []) (x₀ ⊗ (x₁ ⊗ x₂ ⊗ x₃)) (x₀ ⊗ x₁ ⊗ x₂ ⊗ x₃) tt))

pub record Split (ns ks : List ℕ) (j : ℕ) : Type 0 where
  pub outer : ℕ
  pub inner : ℕ
  pub small : inner < stride ns j
  pub places : (r : ℕ) → place_of ns (set ks j r) ≡ (outer * suc (get_or ns j 0) + r) * stride ns j + inner

pub split : (ns ks : List ℕ) (j : ℕ) → Index ns ks → j < length ns → Split ns ks j
split [] ks j w h = absurd (omega arith)
split (n ∷ ns) [] j w h = absurd w
split (n ∷ ns) (k ∷ ks) zero w h = record { outer = 0; inner = place_of ns ks; small = place_below ns ks w.1; places = λ r. omega arith }
split (n ∷ ns) (k ∷ ks) (suc j) w h =
    let d : (a : ℕ) × (numbers ns ≡ a * suc (get_or ns j 0) * stride ns j) = outer_numbers ns j (omega arith) in
    let t : Split ns ks j = split ns ks j w.1 (omega arith) in
    record {
      outer = k * d.0 + t.outer;
      inner = t.inner;
      small = t.small;
      places = λ r. ap₂ (λ y z. k * y + z) d.1 (t.places r)
          ∙ natural (ring (pos k ∷ pos d.0 ∷ pos (suc (get_or ns j 0)) ∷ pos (stride ns j) ∷ pos t.outer ∷ pos r ∷ pos t.inner ∷ [])
          (x₀ ⊗ (x₁ ⊗ x₂ ⊗ x₃) ⊕ ((x₄ ⊗ x₂ ⊕ x₅) ⊗ x₃ ⊕ x₆)) (((x₀ ⊗ x₁ ⊕ x₄) ⊗ x₂ ⊕ x₅) ⊗ x₃ ⊕ x₆) tt);
    }

module _ (ns ks : List ℕ) (j : ℕ) (w : Index ns ks) (h : j < length ns) where
  -- a row begins at one place, and each step along it is a stride
  row_place : (r : ℕ) → place_of ns (set ks j r) ≡ place_of ns (set ks j 0) + r * stride ns j
  row_place r =
      let t : Split ns ks j = split ns ks j w h in
      t.places r
      ∙ natural (ring (pos (t.outer * suc (get_or ns j 0)) ∷ pos r ∷ pos (stride ns j) ∷ pos t.inner ∷ []) ((x₀ ⊕ x₁) ⊗ x₂ ⊕ x₃) ((x₀ ⊕ con (pos 0)) ⊗ x₂ ⊕ x₃ ⊕ x₁ ⊗ x₂) tt)
      ∙ ap (λ p. p + r * stride ns j) (sym (t.places 0))

  pub neighbour : (r : ℕ) → place_of ns (set ks j (suc r)) ≡ place_of ns (set ks j r) + stride ns j
  neighbour r = omega (arith, row_place (suc r), row_place r, suc-mul r (stride ns j))

  pub along_is : along ns j (place_of ns ks) ≡ get_or ks j 0
  along_is =
      let t : Split ns ks j = split ns ks j w h in
      let k : ℕ = get_or ks j 0 in
      let b : get_or ks j 0 < suc (get_or ns j 0) = omega (arith, index_at ns ks j w) in
      let p : place_of ns ks ≡ (t.outer * suc (get_or ns j 0) + k) * stride ns j + t.inner = ap (place_of ns) (sym (set_same j ks)) ∙ t.places k in
      ap (λ i. (i / stride ns j) % suc (get_or ns j 0)) p ∙ ap (λ i. i % suc (get_or ns j 0)) (digits_div (t.outer * suc (get_or ns j 0) + k) t.small) ∙ digits_mod t.outer b

  pub base_is : (r : ℕ) → base ns j (place_of ns ks) + r * stride ns j ≡ place_of ns (set ks j r)
  base_is r =
      let k : ℕ = get_or ks j 0 in
      let p : place_of ns ks ≡ place_of ns (set ks j 0) + k * stride ns j = ap (place_of ns) (sym (set_same j ks)) ∙ row_place k in
      let b : base ns j (place_of ns ks) ≡ place_of ns ks - k * stride ns j = ap (λ k. place_of ns ks - k * stride ns j) along_is in
      omega (arith, p, b, row_place r)

pub row_stays_in_patch : (ns : List ℕ) (j i r : ℕ) → i < numbers ns → j < length ns → r ≤ get_or ns j 0 → base ns j i + r * stride ns j < numbers ns
row_stays_in_patch ns j i r h k p =
    let ks : List ℕ = index_of ns i in
    let w : Index ns (index_of ns i) = index_is_index ns i h in
    let e : base ns j i + r * stride ns j ≡ place_of ns (set ks j r) = ap (λ z. base ns j z + r * stride ns j) (sym (place_of_index ns i h)) ∙ base_is ns ks j w k r in
    omega (arith, e, place_below ns (set ks j r) (index_set ns ks j r w p))
