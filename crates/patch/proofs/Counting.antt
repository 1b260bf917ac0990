-- The number of a patch's numbers, by its parts.
use Rattle.std.proofs.Common.{◌≡◌, ℕ, zero, suc, ◌+◌, ◌-◌, ◌*◌, ◌^◌, ◌<◌, ◌≤◌, Bool, true, false, ◌&&◌, ltb, List, [], ◌∷◌, length, get_or, take, drop, Some, None, sym, refl, ap, ◌∙◌, ap₂, mul_assoc, mul_comm, one-mul, mul-one, le-mul_of_pos_right, add-one, arith, ltb-false, ltb-true, le-ltb, lt-ltb, ⊎_elim}
use Rattle.std.specs.Bool.{then_some}
use Rattle.std.specs.List.{fold}
use Rattle.std.proofs.lemmas.List.{take_rest}
use Rattle.std.proofs.lemmas.Bool.{and_parts, cases_lt}
use Rattle.algebra.specs.Layout.{numbers, stride}
use Rattle.algebra.proofs.Places.{numbers_positive}
use Rattle.patch.specs.Shapes.{counted, shape_of, shaped}
use Rattle.patch.specs.declared.shape.Shape.{Shape}

-- ---- the product of the degrees, each with one added, by a fold
pub fold_is_numbers : (a : ℕ) (ns : List ℕ) → fold (λ m n. m * (n + 1)) a ns ≡ a * numbers ns
fold_is_numbers a [] = sym (mul-one a)
fold_is_numbers a (n ∷ ns) = fold_is_numbers (a * (n + 1)) ns ∙ mul_assoc a (n + 1) (numbers ns) ∙ ap (λ m. a * (m * numbers ns)) (add-one n)

pub fold_rises : (a n : ℕ) → a ≤ a * (n + 1)
fold_rises a n = le-mul_of_pos_right a (omega arith)

-- ---- blocks, rows and strides
pub stride_is : (ns : List ℕ) (j : ℕ) → j < length ns → numbers (drop (j + 1) ns) ≡ stride ns j
stride_is [] j l = absurd (let z : ⊥ = omega arith in z)
stride_is (n ∷ ns) zero l = refl
stride_is (n ∷ ns) (suc j) l = let e : suc j + 1 ≡ suc (j + 1) = omega arith in ap (λ k. numbers (drop k (n ∷ ns))) e ∙ stride_is ns j (omega arith)

pub size_is : (ns : List ℕ) (j : ℕ) → j < length ns → numbers (take j ns) * ((get_or ns j 0 + 1) * stride ns j) ≡ numbers ns
size_is [] j l = absurd (let z : ⊥ = omega arith in z)
size_is (n ∷ ns) zero l = one-mul ((n + 1) * numbers ns) ∙ ap (λ m. m * numbers ns) (add-one n)
size_is (n ∷ ns) (suc j) l = mul_assoc (suc n) (numbers (take j ns)) ((get_or ns j 0 + 1) * stride ns j) ∙ ap (λ m. suc n * m) (size_is ns j (omega arith))

pub stride_positive : (ns : List ℕ) (j : ℕ) → j < length ns → 0 < stride ns j
stride_positive ns j l = omega (arith, stride_is ns j l, numbers_positive (drop (j + 1) ns))

module _ (ns : List ℕ) (j : ℕ) (l : j < length ns) where
  rows_positive : 0 < (get_or ns j 0 + 1) * stride ns j
  rows_positive = let p = stride_positive ns j l in omega (arith, le-mul_of_pos_right (get_or ns j 0 + 1) p)

  pub blocks_below : numbers (take j ns) ≤ numbers ns
  blocks_below = omega (arith, size_is ns j l, le-mul_of_pos_right (numbers (take j ns)) rows_positive)

  pub stride_below : stride ns j ≤ numbers ns
  stride_below =
      let n : 0 < get_or ns j 0 + 1 = omega arith in
      omega (arith, size_is ns j l, le-mul_of_pos_right (stride ns j) n, mul_comm (stride ns j) (get_or ns j 0 + 1), le-mul_of_pos_right ((get_or ns j 0 + 1) * stride ns j) (numbers_positive (take j ns)), mul_comm (numbers (take j ns)) ((get_or ns j 0 + 1) * stride ns j))

  -- a block is no more than the whole patch
  pub block_below : (get_or ns j 0 + 1) * stride ns j ≤ numbers ns
  block_below = omega (arith, size_is ns j l, le-mul_of_pos_right ((get_or ns j 0 + 1) * stride ns j) (numbers_positive (take j ns)), mul_comm (numbers (take j ns)) ((get_or ns j 0 + 1) * stride ns j))

-- the parts of the degrees as the code cuts them
pub back_is : (ns : List ℕ) (j : ℕ) → j < length ns → numbers (take (length ns - (j + 1)) (drop (j + 1) ns)) ≡ stride ns j
back_is ns j l = ap numbers (take_rest ns (j + 1)) ∙ stride_is ns j l

-- ---- a count is refused exactly if no machine word holds it
pub counted_is : (ns : List ℕ) (n : ℕ) → n ≡ numbers ns → n < 2 ^ 64 → Some n ≡ counted ns
counted_is ns n e l = ap Some e ∙ ap (λ b. then_some b (numbers ns)) (sym (lt-ltb (numbers ns) (2 ^ 64) (omega arith)))

pub counted_none : (ns : List ℕ) → 2 ^ 64 ≤ numbers ns → None ≡ counted ns
counted_none ns l = ap (λ b. then_some b (numbers ns)) (sym (le-ltb (numbers ns) (2 ^ 64) l))

some_is : {A : Type 0} (b : Bool) (x y : A) → Some x ≡ then_some b y → (b ≡ true) × (x ≡ y)
some_is true x y e = (refl, (cc))
some_is false x y e = absurd (let z : ◌≡◌ {A = ℕ} 0 1 = cc in omega arith)

none_is : {A : Type 0} (b : Bool) (y : A) → None ≡ then_some b y → b ≡ false
none_is true y e = absurd (let z : ◌≡◌ {A = ℕ} 0 1 = cc in omega arith)
none_is false y e = refl

pub of_count : (ns : List ℕ) (n : ℕ) → Some n ≡ counted ns → (numbers ns < 2 ^ 64) × (n ≡ numbers ns)
of_count ns n e = let h = some_is (ltb (numbers ns) (2 ^ 64)) n (numbers ns) e in (ltb-true (numbers ns) (2 ^ 64) h.0, h.1)

pub of_no_count : (ns : List ℕ) → None ≡ counted ns → 2 ^ 64 ≤ numbers ns
of_no_count ns e = ltb-false (numbers ns) (2 ^ 64) (none_is (ltb (numbers ns) (2 ^ 64)) (numbers ns) e)

pub shaped_is : (ns : List ℕ) (j : ℕ) (s : Shape) → j < length ns → numbers ns < 2 ^ 64 → s ≡ shape_of ns j → Some s ≡ shaped ns j
shaped_is ns j s l n e = ap Some e ∙ ap₂ (λ a b. then_some (a && b) (shape_of ns j)) (sym (lt-ltb j (length ns) l)) (sym (lt-ltb (numbers ns) (2 ^ 64) n))

never : {A : Type 0} (b : Bool) (x : A) → None ≡ then_some (b && false) x
never true x = refl
never false x = refl

pub shaped_none : (ns : List ℕ) (j : ℕ) → 2 ^ 64 ≤ numbers ns → None ≡ shaped ns j
shaped_none ns j l = never (ltb j (length ns)) (shape_of ns j) ∙ ap (λ b. then_some (ltb j (length ns) && b) (shape_of ns j)) (sym (le-ltb (numbers ns) (2 ^ 64) l))

-- a product that no word holds
pub not_held : (x : ℕ) → (x < 2 ^ 64 → ⊥) → 2 ^ 64 ≤ x
not_held x h = ⊎_elim (λ l. absurd (h l)) (λ l. l) (cases_lt x (2 ^ 64))

-- what a shape says
pub of_shape : (ns : List ℕ) (j : ℕ) (s : Shape) → Some s ≡ shaped ns j → (j < length ns) × (numbers ns < 2 ^ 64) × (s ≡ shape_of ns j)
of_shape ns j s e =
    let h = some_is (ltb j (length ns) && ltb (numbers ns) (2 ^ 64)) s (shape_of ns j) e in
    let p = and_parts (ltb j (length ns)) (ltb (numbers ns) (2 ^ 64)) h.0 in
    (ltb-true j (length ns) p.0, ltb-true (numbers ns) (2 ^ 64) p.1, h.1)
