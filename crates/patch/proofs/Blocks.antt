-- A patch of several blocks.
use Rattle.std.proofs.Common.{◌≡◌, ℕ, zero, suc, ◌+◌, ◌-◌, ◌*◌, ◌/◌, ◌%◌, ◌<◌, ◌≤◌, sym, ap, ◌∙◌, subst, ⊎_elim, mul-le-mul_right, mod-lt, mul_assoc, add-mul, div-add-mod', zero-mul, add-one, arith}
use mathlib.Core.Path.{fun_ext}
use lib.Arith.{digits_div, digits_mod}
use Rattle.std.proofs.lemmas.Bool.{cases_lt}
use Rattle.algebra.specs.Pair.{Pair, pairs}
use Rattle.algebra.specs.Form.{half}
use Rattle.algebra.specs.declared.half.Half.{Half}
use Rattle.algebra.specs.declared.half.Half.TheVariants.{Lower}
use Rattle.patch.specs.Sweeps.{row_of, half_at, swept, Kept, spot}
use Rattle.patch.specs.declared.sweep.Rows.{Rows}
use Rattle.patch.proofs.Rows.{row_below, row_in, next_row, swept_is_half, half_cong, twice_row}

-- which row a place stands in
row_at : (n s b k i : ℕ) → k ≤ n → i < s → ((b * ((n + 1) * s) + (k * s + i)) / s) % suc n ≡ k
row_at n s b k i a l =
    let e : b * ((n + 1) * s) + (k * s + i) ≡ (b * suc n + k) * s + i = omega (arith, add-mul (b * suc n) k s, mul_assoc b (suc n) s, ap (λ m. b * (m * s)) (add-one n)) in
    let k' : k < suc n = omega arith in
    ap (λ p. (p / s) % suc n) e ∙ ap (λ q. q % suc n) (digits_div (b * suc n + k) l) ∙ digits_mod b k'

-- a number of a half, by its block, its row and its place in the row
half_is : (h : Half) (n s : ℕ) (x : ℕ → Pair) (b k i : ℕ) → k ≤ n → i < s → half_at h n s x (b * ((n + 1) * s) + (k * s + i)) ≡ half pairs h n (λ r. x (b * ((n + 1) * s) + (r * s + i))) k
half_is h n s x b k i a l =
    let p : ℕ = b * ((n + 1) * s) + (k * s + i) in
    ap (λ j. half pairs h n (λ r. x (p - j * s + r * s)) j) (row_at n s b k i a l)
    ∙ ap (λ f. half pairs h n f k) (fun_ext (λ r. ap x (let e : p - k * s + r * s ≡ b * ((n + 1) * s) + (r * s + i) = omega arith in e)))

half_first : (h : Half) (n s : ℕ) (x : ℕ → Pair) (k i : ℕ) → k ≤ n → i < s → half_at h n s x (k * s + i) ≡ half pairs h n (λ r. x (r * s + i)) k
half_first h n s x k i a l =
    let e : (j : ℕ) → 0 * ((n + 1) * s) + j ≡ j = λ j. omega (arith, zero-mul ((n + 1) * s)) in
    ap (half_at h n s x) (sym (e (k * s + i))) ∙ half_is h n s x 0 k i a l ∙ ap (λ f. half pairs h n f k) (fun_ext (λ r. ap x (e (r * s + i))))

-- every place of a block is one of a row
below : (m a c r : ℕ) → a * m + r < c * m → a < c
below m a c r l = ⊎_elim (λ (k : a < c). k) (λ (k : c ≤ a). absurd (let z : ⊥ = omega (arith, mul-le-mul_right m k) in z)) (cases_lt a c)

by_rows : (n s p : ℕ) (P : ℕ → Type 0) → p < (n + 1) * s → ((k i : ℕ) → k ≤ n → i < s → P (k * s + i)) → P p
by_rows n zero p P l h = absurd (let z : ⊥ = omega arith in z)
by_rows n (suc s) p P l h =
    let e : p / suc s * suc s + p % suc s ≡ p = div-add-mod' p (suc s) in
    let i : p % suc s < suc s = mod-lt p (omega arith) in
    let k : p / suc s < n + 1 = below (suc s) (p / suc s) (n + 1) (p % suc s) (omega arith) in
    subst P e (h (p / suc s) (p % suc s) (omega arith) i)

-- ---- one block
pub block_halved : (r : Rows) (was new : ℕ → Pair) → ((u i : ℕ) → u ≤ r.degree → i < r.stride → new (spot r u i) ≡ swept (λ v. was (spot r v i)) r.degree u)
    → (p : ℕ) → p < (r.degree + 1) * r.stride → new p ≡ half_at r.half r.degree r.stride was p
block_halved r was new sw p l =
    let h = r.half in
    let n = r.degree in
    let s = r.stride in
    by_rows n s p (λ p. new p ≡ half_at h n s was p) l
    (λ k i a b.
    ap (λ v. new (v * s + i)) (sym (twice_row h n k a)) ∙ sw (row_of h n k) i (row_below h n k a) b ∙ swept_is_half h n k (λ v. was (v * s + i)) a ∙ sym (half_first h n s was k i a b))

-- it reads numbers of its own alone
pub block_same : (h : Half) (n s : ℕ) (x y : ℕ → Pair) → ((q : ℕ) → q < (n + 1) * s → x q ≡ y q) → (p : ℕ) → p < (n + 1) * s → half_at h n s x p ≡ half_at h n s y p
block_same h n s x y e p l =
    by_rows n s p (λ p. half_at h n s x p ≡ half_at h n s y p) l
    (λ k i a b.
    half_first h n s x k i a b ∙ half_cong h n k (λ r. x (r * s + i)) (λ r. y (r * s + i)) a (λ r c. let w = row_in Lower n s r c in e (r * s + i) (omega arith)) ∙ sym (half_first h n s y k i a b))

-- a half of a patch is a half of each of its blocks
block_of : (h : Half) (n s b : ℕ) (x : ℕ → Pair) (p : ℕ) → p < (n + 1) * s → half_at h n s (λ q. x (b * ((n + 1) * s) + q)) p ≡ half_at h n s x (b * ((n + 1) * s) + p)
block_of h n s b x p l =
    by_rows n s p (λ p. half_at h n s (λ q. x (b * ((n + 1) * s) + q)) p ≡ half_at h n s x (b * ((n + 1) * s) + p)) l
    (λ k i a c. half_first h n s (λ q. x (b * ((n + 1) * s) + q)) k i a c ∙ sym (half_is h n s x b k i a c))

-- ---- the blocks below b are halved, and the others are as they were
pub record Done (h : Half) (n s : ℕ) (was : ℕ → Pair) (b : ℕ) (is : ℕ → Pair) : Type 0 where
  pub new : (p : ℕ) → p < b * ((n + 1) * s) → is p ≡ half_at h n s was p
  pub old : (p : ℕ) → b * ((n + 1) * s) ≤ p → is p ≡ was p

pub done_more : (h : Half) (n s : ℕ) (was : ℕ → Pair) (b : ℕ) (is new : ℕ → Pair) → Done h n s was b is
    → ((q : ℕ) → q < (n + 1) * s → new (b * ((n + 1) * s) + q) ≡ half_at h n s (λ q. is (b * ((n + 1) * s) + q)) q)
    → Kept (b * ((n + 1) * s)) (b * ((n + 1) * s) + (n + 1) * s) new is → Done h n s was (b + 1) new
done_more h n s was b is new d halved kept =
    let first : ℕ = b * ((n + 1) * s) in
    let r = next_row ((n + 1) * s) b in
    record {
      new = λ p l.
          ⊎_elim
          (λ (a : p < first). kept.0 p a ∙ d.new p a)
          (λ (a : first ≤ p).
          let q : ℕ = p - first in
          let e : first + q ≡ p = omega arith in
          let k : q < (n + 1) * s = omega arith in
          subst (λ p. new p ≡ half_at h n s was p) e
          (halved q k ∙ block_same h n s (λ q. is (first + q)) (λ q. was (first + q)) (λ q _. d.old (first + q) (omega arith)) q k ∙ block_of h n s b was q k))
          (cases_lt p first);
      old = λ p l. kept.1 p (omega arith) ∙ d.old p (omega arith);
    }
