-- Counting over places, and over the blocks of a patch.
use Rattle.std.proofs.Common.{◌≡◌, ℕ, zero, suc, ◌+◌, ◌-◌, ◌*◌, ◌/◌, ◌%◌, ◌<◌, ◌≤◌, Bool, true, false, not, cond, ◌&&◌, eqb, ltb, List, length, get_or, take, sym, refl, ap, ◌∙◌, ap₂, add-zero, add_assoc, add-suc, mod-lt, mul_assoc, suc-mul, zero-mul, div-lt_iff_lt-mul, add-mul, div-add-mod', le-div_iff_mul-le, zero-add, add-one, arith, le-ltb, lt-ltb, eq-eqb, ne_eqb, sum}
use Rattle.std.proofs.lemmas.List.{take_all}
use Rattle.std.proofs.lemmas.List.Sums.{sum_by_more}
use lib.Arith.{digits_div, digits_mod}
use denote.Enum.Bare.{sameb}
use Rattle.algebra.specs.contracts.sign.Sign.{the_type}
use Rattle.patch.proofs.Rows.{next_row}
use Rattle.algebra.specs.declared.sign.Sign.{Sign}
use Rattle.algebra.specs.declared.sign.Sign.TheVariants.{Negative, Zero, Positive}
use Rattle.chooser.specs.BySigns.{is_negative, tally, differ}

one_at_most : (t : Bool) → cond t 1 0 ≤ 1
one_at_most true = omega arith
one_at_most false = omega arith

pub tally_le : (test : ℕ → Bool) (from n : ℕ) → tally test from n ≤ n
tally_le test from zero = omega arith
tally_le test from (suc n) = omega (arith, tally_le test from n, one_at_most (test (from + n)))

-- ---- a loop has come to place k
module _ (test : ℕ → Bool) (from k m : ℕ) (e : m ≡ tally test from k) where
  next : tally test from (k + 1) ≡ m + cond (test (from + k)) 1 0
  next = ap (tally test from) (add-one k) ∙ ap (λ t. t + cond (test (from + k)) 1 0) (sym e)

  pub tally_yes : test (from + k) ≡ true → m + 1 ≡ tally test from (k + 1)
  tally_yes h = sym (next ∙ ap (λ t. m + cond t 1 0) h)

  pub tally_no : test (from + k) ≡ false → m ≡ tally test from (k + 1)
  tally_no h = sym (next ∙ ap (λ t. m + cond t 1 0) h ∙ add-zero m)

-- ---- parts
pub tally_parts : (test : ℕ → Bool) (from m n : ℕ) → tally test from (m + n) ≡ tally test from m + tally test (from + m) n
tally_parts test from m zero = ap (tally test from) (add-zero m) ∙ sym (add-zero (tally test from m))
tally_parts test from m (suc n) =
    ap (tally test from) (add-suc m n)
    ∙ ap₂ (λ a b. a + cond (test b) 1 0) (tally_parts test from m n) (sym (add_assoc from m n))
    ∙ add_assoc (tally test from m) (tally test (from + m) n) (cond (test (from + m + n)) 1 0)

pub tally_same : (p q : ℕ → Bool) (from to n : ℕ) → ((k : ℕ) → k < n → p (from + k) ≡ q (to + k)) → tally p from n ≡ tally q to n
tally_same p q from to zero h = refl
tally_same p q from to (suc n) h = ap₂ (λ a t. a + cond t 1 0) (tally_same p q from to n (λ k l. h k (omega arith))) (h n (omega arith))

pub tally_none : (p : ℕ → Bool) (from n : ℕ) → ((k : ℕ) → k < n → p (from + k) ≡ false) → tally p from n ≡ 0
tally_none p from zero h = refl
tally_none p from (suc n) h = ap₂ (λ a t. a + cond t 1 0) (tally_none p from n (λ k l. h k (omega arith))) (h n (omega arith))

-- only the places from u on, v of them, can pass
window : (all test : ℕ → Bool) (from u v w : ℕ) → ((k : ℕ) → k < u → all (from + k) ≡ false) → ((k : ℕ) → k < v → all (from + (u + k)) ≡ test (from + (u + k)))
    → ((k : ℕ) → k < w → all (from + (u + (v + k))) ≡ false) → tally all from (u + (v + w)) ≡ tally test (from + u) v
window all test from u v w before here after =
    tally_parts all from u (v + w)
    ∙ ap₂ ◌+◌
    (tally_none all from u before)
    (tally_parts all (from + u) v w
    ∙ ap₂ ◌+◌
    (tally_same all test (from + u) (from + u) v (λ k l. ap all (add_assoc from u k) ∙ here k l ∙ ap test (sym (add_assoc from u k))))
    (tally_none all (from + u + v) w (λ k l. ap all (let e : from + u + v + k ≡ from + (u + (v + k)) = omega arith in e) ∙ after k l))
    ∙ add-zero (tally test (from + u) v))
    ∙ zero-add (tally test (from + u) v)

-- xs says of each stretch of one size how many of its places pass: the first n of them add up to what passes in n stretches
sum_front : (test : ℕ → Bool) (size : ℕ) (xs : List ℕ) → ((k : ℕ) → k < length xs → get_or xs k 0 ≡ tally test (k * size) size)
    → (n : ℕ) → n ≤ length xs → sum (take n xs) ≡ tally test 0 (n * size)
sum_front test size xs each zero l = ap (tally test 0) (sym (zero-mul size))
sum_front test size xs each (suc n) l =
    ap (λ m. sum (take m xs)) (sym (add-one n))
    ∙ sum_by_more (λ x. x) xs n 0 l
    ∙ ap₂ ◌+◌ (sum_front test size xs each n (omega arith)) (each n l ∙ ap (λ i. tally test i size) (sym (zero-add (n * size))))
    ∙ sym (tally_parts test 0 (n * size) size)
    ∙ ap (tally test 0) (sym (suc-mul n size))

pub sum_of_stretches : (test : ℕ → Bool) (size : ℕ) (xs : List ℕ) → ((k : ℕ) → k < length xs → get_or xs k 0 ≡ tally test (k * size) size) → sum xs ≡ tally test 0 (length xs * size)
sum_of_stretches test size xs each = ap sum (sym (take_all (length xs) xs (omega arith))) ∙ sum_front test size xs each (length xs) (omega arith)

-- ---- signs as the code compares them
-- `!=` on signs, which compares the places of their variants
pub differ_is : (a b : Sign) → not (sameb the_type a b) ≡ differ a b
differ_is Negative Negative = refl
differ_is Negative Zero = refl
differ_is Negative Positive = refl
differ_is Zero Negative = refl
differ_is Zero Zero = refl
differ_is Zero Positive = refl
differ_is Positive Negative = refl
differ_is Positive Zero = refl
differ_is Positive Positive = refl

pub same_as_negative : (a : Sign) → sameb the_type a Negative ≡ is_negative a
same_as_negative Negative = refl
same_as_negative Zero = refl
same_as_negative Positive = refl

-- ---- the block b of a patch: n + 1 rows of s places
module _ (n s b : ℕ) (some : 0 < s) where
  -- the row of a place in the block
  row_in_block : (k : ℕ) → k < (n + 1) * s → (b * ((n + 1) * s) + k) / s % suc n ≡ k / s
  row_in_block k l =
      let r : ℕ = k / s in
      let e : b * ((n + 1) * s) + k ≡ (b * suc n + k / s) * s + k % s = omega (arith, div-add-mod' k s, add-mul (b * suc n) (k / s) s, mul_assoc b (suc n) s, ap (λ m. b * (m * s)) (add-one n)) in
      let small : k / s < suc n = omega (arith, (div-lt_iff_lt-mul {k = s} {x = k} {y = n + 1} some).1 l) in
      ap (λ p. p / s % suc n) e ∙ ap (λ q. q % suc n) (digits_div (b * suc n + r) (mod-lt k some)) ∙ digits_mod b small

  -- of the places that have a later neighbour those of the first n rows pass
  pub block_changes : (test : ℕ → Bool) → tally (λ i. ltb (i / s % suc n) n && test i) (b * ((n + 1) * s)) ((n + 1) * s) ≡ tally test (b * ((n + 1) * s)) (n * s)
  block_changes test =
      let from : ℕ = b * ((n + 1) * s) in
      let all : ℕ → Bool = λ i. ltb (i / s % suc n) n && test i in
      ap (tally all from) (next_row s n)
      ∙ tally_parts all from (n * s) s
      ∙ ap₂ ◌+◌
      (tally_same all test from from (n * s) (λ k l. ap (λ t. t && test (from + k)) (ap (λ r. ltb r n) (row_in_block k (omega (arith, next_row s n))) ∙ lt-ltb (k / s) n ((div-lt_iff_lt-mul {k = s} {x = k} {y = n} some).1 l))))
      (tally_none all (from + n * s) s (λ k l. ap (λ t. t && test (from + n * s + k)) (ap (λ i. ltb (i / s % suc n) n) (add_assoc from (n * s) k) ∙ ap (λ r. ltb r n) (row_in_block (n * s + k) (omega (arith, next_row s n)) ∙ digits_div n l) ∙ le-ltb n n (omega arith))))
      ∙ add-zero (tally test from (n * s))

  -- of the places with index r along the axis those of row r pass
  pub block_row : (test : ℕ → Bool) (r : ℕ) → r ≤ n → tally (λ i. eqb (i / s % suc n) r && test i) (b * ((n + 1) * s)) ((n + 1) * s) ≡ tally test (b * ((n + 1) * s) + r * s) s
  block_row test r l =
      let from : ℕ = b * ((n + 1) * s) in
      let all : ℕ → Bool = λ i. eqb (i / s % suc n) r && test i in
      let e : (n + 1) * s ≡ r * s + (s + (n - r) * s) = omega (arith, next_row s n, add-mul r (n - r) s, ap (λ m. m * s) (let d : r + (n - r) ≡ n = omega arith in d)) in
      let at : (k : ℕ) → k < (n + 1) * s → (t : Bool) → eqb (k / s) r ≡ t → all (from + k) ≡ (t && test (from + k)) = λ k h t q. ap (λ u. u && test (from + k)) (ap (λ m. eqb m r) (row_in_block k h) ∙ q) in
      ap (tally all from) e
      ∙ window all test from (r * s) s ((n - r) * s)
      (λ k h. at k (omega (arith, e)) false (ne_eqb (k / s) r (λ q. let d : k / s < r = (div-lt_iff_lt-mul {k = s} {x = k} {y = r} some).1 h in let z : ⊥ = omega arith in z)))
      (λ k h. at (r * s + k) (omega (arith, e)) true (eq-eqb ((r * s + k) / s) r (digits_div r h)))
      (λ k h. at (r * s + (s + k)) (omega (arith, e)) false
      (ne_eqb ((r * s + (s + k)) / s) r (λ q. let d : r + 1 ≤ (r * s + (s + k)) / s = (le-div_iff_mul-le {k = s} {x = r + 1} {y = r * s + (s + k)} some).1 (omega (arith, suc-mul r s, ap (λ m. m * s) (add-one r))) in let z : ⊥ = omega arith in z)))
