-- Sums and products that stop at the largest word: stopping on the way changes nothing.
use Rattle.std.proofs.Common.{◌≡◌, ℕ, zero, suc, ◌+◌, ◌-◌, ◌*◌, ◌^◌, ◌<◌, ◌≤◌, min, List, [], ◌∷◌, map, zip, replicate, fold, sym, refl, ap, ◌∙◌, ⊎_elim, mul_assoc, mul_comm, mul-zero, mul-one, mul-suc, arith}
use native.Mathlib.Nat.{pow-succ', pow-zero}
use Rattle.std.proofs.lemmas.Bool.{cases_lt}
use Rattle.ticket.specs.Capped.{capped}
use Rattle.ticket.specs.Sizes.{reach, power_reach}
use Rattle.ticket.specs.declared.records.Axis.{Axis}

-- ---- a sum or a product that is cut on the way, at any cap
pub cut_sum : (cap a b : ℕ) → min (min a cap + b) cap ≡ min (a + b) cap
cut_sum cap a b = omega arith

pub cut_sum_right : (cap a b : ℕ) → min (a + min b cap) cap ≡ min (a + b) cap
cut_sum_right cap a b = omega arith

large : (cap a b : ℕ) → cap ≤ a → min (cap * b) cap ≡ min (a * b) cap
large cap a zero h = let e = mul-zero a in let f = mul-zero cap in omega arith
large cap a (suc b) h = let e = mul-suc a b in let f = mul-suc cap b in omega arith

pub cut_product : (cap a b : ℕ) → min (min a cap * b) cap ≡ min (a * b) cap
cut_product cap a b =
    ⊎_elim (λ l. let e : min a cap ≡ a = omega arith in ap (λ x. min (x * b) cap) e)
    (λ l. let e : min a cap ≡ cap = omega arith in ap (λ x. min (x * b) cap) e ∙ large cap a b l)
    (cases_lt a cap)

-- ---- at the largest word
pub cut_product_right : (a b : ℕ) → capped (a * capped b) ≡ capped (a * b)
cut_product_right a b = ap capped (mul_comm a (capped b)) ∙ cut_product (2 ^ 64 - 1) b a ∙ ap capped (mul_comm b a)

pub cut_both : (a b : ℕ) → capped (capped a * capped b) ≡ capped (a * b)
cut_both a b = cut_product (2 ^ 64 - 1) a (capped b) ∙ cut_product_right a b

cut : (n : ℕ) → capped n < 2 ^ 64
cut n = omega arith

-- ---- folds over what is given for each element, which stands for its factor or its part
module _ {X : Type 0} (whole : List X → ℕ) (given : X → ℕ) where
  product_from : (factor : X → ℕ) → whole [] ≡ 1 → ((x : X) (xs : List X) → whole (x ∷ xs) ≡ factor x * whole xs) → ((n : ℕ) (x : X) → capped (n * given x) ≡ capped (n * factor x))
      → (n : ℕ) → n < 2 ^ 64 → (xs : List X) → fold (λ p y. capped (p * y)) n (map given xs) ≡ capped (n * whole xs)
  product_from factor none more same n h [] = let e : n * 1 ≡ n = mul-one n in let f : n ≡ capped n = omega arith in f ∙ ap capped (sym e) ∙ ap (λ k. capped (n * k)) (sym none)
  product_from factor none more same n h (x ∷ xs) =
      product_from factor none more same (capped (n * given x)) (cut (n * given x)) xs
      ∙ ap (λ k. capped (k * whole xs)) (same n x)
      ∙ cut_product (2 ^ 64 - 1) (n * factor x) (whole xs)
      ∙ ap capped (mul_assoc n (factor x) (whole xs) ∙ ap (λ k. n * k) (sym (more x xs)))

  pub product_fold : (factor : X → ℕ) → whole [] ≡ 1 → ((x : X) (xs : List X) → whole (x ∷ xs) ≡ factor x * whole xs) → ((n : ℕ) (x : X) → capped (n * given x) ≡ capped (n * factor x))
      → (xs : List X) → fold (λ p y. capped (p * y)) 1 (map given xs) ≡ capped (whole xs)
  product_fold factor none more same xs =
      let e : 1 * whole xs ≡ whole xs = omega arith in
      product_from factor none more same 1 (omega arith) xs ∙ ap capped e

  sum_from : (part : X → ℕ) → whole [] ≡ 0 → ((x : X) (xs : List X) → whole (x ∷ xs) ≡ part x + whole xs) → ((x : X) → given x ≡ capped (part x))
      → (n : ℕ) → n < 2 ^ 64 → (xs : List X) → fold (λ s y. capped (s + y)) n (map given xs) ≡ capped (n + whole xs)
  sum_from part none more same n h [] = omega arith
  sum_from part none more same n h (x ∷ xs) =
      sum_from part none more same (capped (n + given x)) (cut (n + given x)) xs
      ∙ (let p = same x in let q = more x xs in omega arith)

  pub sum_fold : (part : X → ℕ) → whole [] ≡ 0 → ((x : X) (xs : List X) → whole (x ∷ xs) ≡ part x + whole xs) → ((x : X) → given x ≡ capped (part x))
      → (xs : List X) → fold (λ s y. capped (s + y)) 0 (map given xs) ≡ capped (whole xs)
  sum_fold part none more same xs =
      let e : 0 + whole xs ≡ whole xs = omega arith in
      sum_from part none more same 0 (omega arith) xs ∙ ap capped e

-- ---- a power, as the product of copies of its base
power_from : (b n k : ℕ) → k < 2 ^ 64 → fold (λ p y. capped (p * y)) k (replicate n b) ≡ capped (k * b ^ n)
power_from b zero k h = let e : k * 1 ≡ k = mul-one k in let f : k ≡ capped k = omega arith in f ∙ ap capped (sym e) ∙ ap (λ j. capped (k * j)) (sym (pow-zero b))
power_from b (suc n) k h =
    power_from b n (capped (k * b)) (cut (k * b))
    ∙ cut_product (2 ^ 64 - 1) (k * b) (b ^ n)
    ∙ ap capped (mul_assoc k b (b ^ n) ∙ ap (λ j. k * j) (sym (pow-succ' b n)))

pub power_fold : (b n : ℕ) → fold (λ p y. capped (p * y)) 1 (replicate n b) ≡ capped (b ^ n)
power_fold b n =
    let e : 1 * b ^ n ≡ b ^ n = omega arith in
    power_from b n 1 (omega arith) ∙ ap capped e

-- ---- the reaches of the variables, with their exponents
abbrev pub reaches : List (Axis × ℕ) → ℕ
reaches [] = 1
reaches (p ∷ ps) = reach p.0 ^ p.1 * reaches ps

no_exponents : (axes : List Axis) → 1 ≡ power_reach axes []
no_exponents [] = refl
no_exponents (a ∷ axes) = λ i. sym (pow-zero (reach a)) i * no_exponents axes i

pub reaches-zip : (axes : List Axis) (es : List ℕ) → reaches (zip axes es) ≡ power_reach axes es
reaches-zip [] es = refl
reaches-zip (a ∷ axes) [] = no_exponents (a ∷ axes)
reaches-zip (a ∷ axes) (e ∷ es) = ap (λ k. reach a ^ e * k) (reaches-zip axes es)
