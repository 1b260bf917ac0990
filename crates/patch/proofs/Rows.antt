-- Rows of a block: where they stand, what a sweep leaves, and what the sweeps come to.
use Rattle.std.proofs.Common.{◌≡◌, ℕ, zero, suc, ◌+◌, ◌-◌, ◌*◌, ◌<◌, ◌≤◌, min, true, ◌⊎◌, [], ◌∷◌, pos, sym, refl, ap, ◌∙◌, subst, ap₂, inl, inr, ⊎_elim, mul-le-mul_right, suc-mul, add-one, arith}
use Rattle.std.proofs.lemmas.Bool.Decides.{nat_tests, leb_tells}
use Rattle.std.proofs.lemmas.Bool.{cases_order, cases_eq}
use Rattle.algebra.specs.Module.{pow}
use Rattle.algebra.specs.Pair.{Pair, pairs, sum, multiple, Within}
use Rattle.algebra.specs.Bernstein.{binomial_sum, low}
use Rattle.algebra.specs.Form.{half, other}
use Rattle.algebra.specs.declared.half.Half.{Half}
use Rattle.algebra.specs.declared.half.Half.TheVariants.{Lower, Upper}
use Rattle.algebra.proofs.Ring.{con}
use Rattle.algebra.proofs.Module.{linear, ◌⊞◌, ◌⊡◌, v₀}
use Rattle.algebra.proofs.Pair.{pairs_laws}
use Rattle.algebra.proofs.Bernstein.{eval_cong}
use Rattle.algebra.proofs.Binomial.{binomial_sum_is_eval}
use Rattle.number.specs.Limits.{may_grow}
use Rattle.number.proofs.Growth.{growth_within, growth_of_sum}
use Rattle.patch.specs.Sweeps.{row_of, added_row, swept, Kept, spot, farther}
use Rattle.patch.specs.declared.sweep.Rows.{Rows}

abbrev pub Grows : ℕ → ℕ → Pair → Type 0
Grows limit n x = may_grow limit n x ≡ true

-- ---- where rows stand
pub row_end : (s j k : ℕ) → j < k → j * s + s ≤ k * s
row_end s j k h = omega (arith, mul-le-mul_right s h, suc-mul j s)

pub next_row : (s k : ℕ) → (k + 1) * s ≡ k * s + s
next_row s k = rw add-one (suc-mul k s)

pub row_below : (h : Half) (n u : ℕ) → u ≤ n → row_of h n u ≤ n
row_below Lower n u l = l
row_below Upper n u l = omega arith

pub twice_row : (h : Half) (n u : ℕ) → u ≤ n → row_of h n (row_of h n u) ≡ u
twice_row Lower n u l = refl
twice_row Upper n u l = omega arith

-- two rows are one, or one ends before the other
pub rows_apart : (h : Half) (n s u v : ℕ) → u ≤ n → v < u → (row_of h n u * s + s ≤ row_of h n v * s) ⊎ (row_of h n v * s + s ≤ row_of h n u * s)
rows_apart Lower n s u v l k = inr (row_end s v u k)
rows_apart Upper n s u v l k = inl (row_end s (n - u) (n - v) (omega arith))

pub row_in : (h : Half) (n s u : ℕ) → u ≤ n → row_of h n u * s + s ≤ (n + 1) * s
row_in h n s u l = row_end s (row_of h n u) (n + 1) (let k = row_below h n u l in omega arith)

pub added_row_is : (j u : ℕ) → ((j < u) × (added_row j u ≡ u - 1)) ⊎ ((u ≤ j) × (added_row j u ≡ u))
added_row_is j u = grind (arith, nat_tests)

pub added_row_below : (j u n : ℕ) → u ≤ n → added_row j u ≤ n
added_row_below j u n l = ⊎_elim (λ (k : (j < u) × (added_row j u ≡ u - 1)). omega arith) (λ (k : (u ≤ j) × (added_row j u ≡ u)). omega arith) (added_row_is j u)

pub added_earlier : (j u : ℕ) → j < u → added_row j u ≡ u - 1
added_earlier j u l = grind (arith, nat_tests)

pub added_itself : (j u : ℕ) → u ≤ j → added_row j u ≡ u
added_itself j u l = grind (arith, nat_tests)

cases_le : (m n : ℕ) → (m ≤ n) ⊎ (n < m)
cases_le m n = grind (arith, leb_tells m n)

pub both : {p q p' q' : Pair} → p ≡ p' → q ≡ q' → sum p q ≡ sum p' q'
both e h = cc

-- ---- growth
pub swept_grows : (limit n : ℕ) (q : ℕ → Pair) (m j : ℕ) → ((u : ℕ) → u ≤ n → Grows limit (m + j) (q u)) → (u : ℕ) → u ≤ n → Grows limit m (swept q j u)
swept_grows limit n q m zero h u l = let e : m + 0 ≡ m = omega arith in subst (λ k. Grows limit k (q u)) e (h u l)
swept_grows limit n q m (suc j) h u l =
    let e : m + suc j ≡ m + 1 + j = omega arith in
    let k : ((u : ℕ) → u ≤ n → Grows limit (m + 1 + j) (q u)) = λ u l. subst (λ k. Grows limit k (q u)) e (h u l) in
    growth_of_sum limit m (swept q j u) (swept q j (added_row j u)) (swept_grows limit n q (m + 1) j k u l) (swept_grows limit n q (m + 1) j k (added_row j u) (added_row_below j u n l))

pub sum_within : (limit m : ℕ) (x y : Pair) → 0 < m → Grows limit m x → Grows limit m y → Within limit (sum x y)
sum_within limit m x y l a b =
    let e : m ≡ m - 1 + 1 = omega arith in
    growth_within limit (m - 1) (sum x y) (growth_of_sum limit (m - 1) x y (subst (λ k. Grows limit k x) e a) (subst (λ k. Grows limit k y) e b))

-- ---- the sums are the half
next_binomial : (k : ℕ) (f : ℕ → Pair) → binomial_sum pairs (suc k) f ≡ sum (binomial_sum pairs k f) (binomial_sum pairs k (λ r. f (suc r)))
next_binomial k f =
    binomial_sum_is_eval pairs_laws (suc k) f
    ∙ ap₂ sum (pairs_laws.one_times _ ∙ sym (binomial_sum_is_eval pairs_laws k f)) (pairs_laws.one_times _ ∙ sym (binomial_sum_is_eval pairs_laws k (λ r. f (suc r))))

binomial_cong : (k : ℕ) (f g : ℕ → Pair) → ((r : ℕ) → r ≤ k → f r ≡ g r) → binomial_sum pairs k f ≡ binomial_sum pairs k g
binomial_cong k f g h = binomial_sum_is_eval pairs_laws k f ∙ eval_cong pairs_laws k (pos 1) (pos 1) f g h ∙ sym (binomial_sum_is_eval pairs_laws k g)

twice : (x : Pair) → sum x x ≡ multiple (pos 2) x
twice x = linear pairs_laws [] (x ∷ []) (v₀ ⊞ v₀) (con (pos 2) ⊡ v₀) tt

module _ (q : ℕ → Pair) where
  -- the rows that every sweep so far added the one before to
  above : (j u : ℕ) → j ≤ u → swept q j u ≡ binomial_sum pairs j (λ r. q (u - j + r))
  above zero u l =
      let e : u - 0 + 0 ≡ u = omega arith in
      ap q (sym e) ∙ sym (pairs_laws.plus_nought _ ∙ pairs_laws.one_times (q (u - 0 + 0)))
  above (suc j) u l =
      let e : added_row j u ≡ u - 1 = grind (arith, nat_tests) in
      let a : swept q j u ≡ binomial_sum pairs j (λ r. q (u - suc j + suc r)) = above j u (omega arith) ∙ binomial_cong j (λ r. q (u - j + r)) (λ r. q (u - suc j + suc r)) (λ r _. ap q (omega arith)) in
      let b : swept q j (added_row j u) ≡ binomial_sum pairs j (λ r. q (u - suc j + r)) = ap (swept q j) e ∙ above j (u - 1) (omega arith) ∙ binomial_cong j (λ r. q (u - 1 - j + r)) (λ r. q (u - suc j + r)) (λ r _. ap q (omega arith)) in
      ap₂ sum a b ∙ pairs_laws.plus_comm (binomial_sum pairs j (λ r. q (u - suc j + suc r))) (binomial_sum pairs j (λ r. q (u - suc j + r))) ∙ sym (next_binomial j (λ r. q (u - suc j + r)))

  -- and those that were doubled from sweep u on
  here : (j u : ℕ) → u ≡ j → swept q j u ≡ low pairs j q u
  here j u e =
      let z : j - u ≡ 0 = omega arith in
      above j u (omega arith) ∙ binomial_cong j (λ r. q (u - j + r)) q (λ r _. ap q (omega arith)) ∙ ap (λ k. binomial_sum pairs k q) (sym e)
      ∙ sym (ap (λ m. multiple (pow (pos 2) m) (binomial_sum pairs u q)) z ∙ pairs_laws.one_times _)

  pub swept_is_low : (j u : ℕ) → u ≤ j → swept q j u ≡ low pairs j q u
  swept_is_low zero u l = here zero u (omega arith)
  swept_is_low (suc j) u l =
      ⊎_elim
      (λ (k : u ≤ j).
      let a : added_row j u ≡ u = grind (arith, nat_tests) in
      let e : suc j - u ≡ suc (j - u) = omega arith in
      let h = swept_is_low j u k in
      ap (λ v. sum (swept q j u) (swept q j v)) a ∙ ap (λ x. sum x x) h ∙ twice (low pairs j q u) ∙ sym (pairs_laws.times_times (pos 2) (pow (pos 2) (j - u)) (binomial_sum pairs u q))
      ∙ ap (λ m. multiple (pow (pos 2) m) (binomial_sum pairs u q)) (sym e))
      (λ (k : j < u). here (suc j) u (omega arith))
      (cases_le u j)

-- the rows of f, swept as often as the degree says, are those of its half
pub swept_is_half : (h : Half) (n k : ℕ) (f : ℕ → Pair) → k ≤ n → swept (λ r. f (row_of h n r)) n (row_of h n k) ≡ half pairs h n f k
swept_is_half Lower n k f l = swept_is_low f n k l
swept_is_half Upper n k f l =
    let e : n - (n - k) ≡ k = omega arith in
    swept_is_low (λ r. f (n - r)) n (n - k) (omega arith) ∙ ap (λ m. multiple (pow (pos 2) m) (binomial_sum pairs (n - k) (λ r. f (n - r)))) e

pub half_cong : (h : Half) (n k : ℕ) (f g : ℕ → Pair) → k ≤ n → ((r : ℕ) → r ≤ n → f r ≡ g r) → half pairs h n f k ≡ half pairs h n g k
half_cong Lower n k f g l h = ap (multiple (pow (pos 2) (n - k))) (binomial_cong k f g (λ r a. h r (omega arith)))
half_cong Upper n k f g l h = ap (multiple (pow (pos 2) k)) (binomial_cong (n - k) (λ r. f (n - r)) (λ r. g (n - r)) (λ r a. h (n - r) (omega arith)))

-- ---- one sweep, from the last row on: the rows from t on have theirs, and those below are as they were
pub record Staged (r : Rows) (j : ℕ) (was : ℕ → Pair) (t : ℕ) (is : ℕ → Pair) : Type 0 where
  pub new : (v i : ℕ) → v ≤ r.degree → t ≤ v → i < r.stride → is (spot r v i) ≡ sum (was (spot r v i)) (was (spot r (added_row j v) i))
  pub old : (v i : ℕ) → v ≤ r.degree → v < t → i < r.stride → is (spot r v i) ≡ was (spot r v i)

module _ (r : Rows) (j : ℕ) (was : ℕ → Pair) (u : ℕ) (is new : ℕ → Pair) (l : u ≤ r.degree) (k : Kept (spot r u 0) (spot r u r.stride) new is) where
  -- a place in another row is not in row u
  elsewhere : (v i : ℕ) → v ≤ r.degree → (v ≡ u → ⊥) → i < r.stride → new (spot r v i) ≡ is (spot r v i)
  elsewhere v i a ne b =
      let h = r.half in
      let n = r.degree in
      let s = r.stride in
      let below : (row_of h n v * s + s ≤ row_of h n u * s) → new (spot r v i) ≡ is (spot r v i) = λ d. k.0 (spot r v i) (omega arith) in
      let above : (row_of h n u * s + s ≤ row_of h n v * s) → new (spot r v i) ≡ is (spot r v i) = λ d. k.1 (spot r v i) (omega arith) in
      ⊎_elim
      (λ (e : v ≡ u). absurd (ne e))
      (⊎_elim
      (λ (d : v < u). ⊎_elim above below (rows_apart h n s u v l d))
      (λ (d : u < v). ⊎_elim below above (rows_apart h n s v u a d)))
      (cases_order v u)

  pub staged_more : Staged r j was (u + 1) is → ((i : ℕ) → i < r.stride → new (spot r u i) ≡ sum (is (spot r u i)) (is (spot r (added_row j u) i))) → Staged r j was u new
  staged_more st sums = record {
    new = λ v i a b c.
        ⊎_elim
        (λ (e : v ≡ u).
        let w = added_row_below j u u (omega arith) in
        subst (λ v. new (spot r v i) ≡ sum (was (spot r v i)) (was (spot r (added_row j v) i))) (sym e) (sums i c ∙ both (st.old u i l (omega arith) c) (st.old (added_row j u) i (omega arith) (omega arith) c)))
        (λ (ne : v ≡ u → ⊥). elsewhere v i a ne c ∙ st.new v i a (omega arith) c)
        (cases_eq v u);
    old = λ v i a b c. elsewhere v i a (λ e. let z : ⊥ = omega arith in z) c ∙ st.old v i a (omega arith) c;
  }

-- ---- two rows that stand side by side, the first of them at `at`
pub farther_below : (h : Half) (s i : ℕ) → i < s → farther h s i < 2 * s
farther_below Lower s i l = omega arith
farther_below Upper s i l = omega arith

module _ (n s u at : ℕ) (some : 0 < u) (below : u ≤ n) where
  pub row_is : (h : Half) → at ≡ min (row_of h n u * s) (row_of h n (u - 1) * s) → (i : ℕ) → row_of h n u * s + i ≡ at + farther h s i
  row_is Lower e i = let k : u ≡ u - 1 + 1 = omega arith in let w = ap (λ v. v * s) k ∙ next_row s (u - 1) in omega arith
  row_is Upper e i = let k : n - (u - 1) ≡ n - u + 1 = omega arith in let w = ap (λ v. v * s) k ∙ next_row s (n - u) in omega arith

  pub row_before_is : (h : Half) → at ≡ min (row_of h n u * s) (row_of h n (u - 1) * s) → (i : ℕ) → row_of h n (u - 1) * s + i ≡ at + farther (other h) s i
  row_before_is Lower e i = let k : u ≡ u - 1 + 1 = omega arith in let w = ap (λ v. v * s) k ∙ next_row s (u - 1) in omega arith
  row_before_is Upper e i = let k : n - (u - 1) ≡ n - u + 1 = omega arith in let w = ap (λ v. v * s) k ∙ next_row s (n - u) in omega arith

  pub two_fit : (h : Half) → at ≡ min (row_of h n u * s) (row_of h n (u - 1) * s) → at + 2 * s ≤ (n + 1) * s
  two_fit h e =
      let a = row_in h n s u below in
      let b = row_in h n s (u - 1) (omega arith) in
      let p = row_is h e 0 in
      let q = row_before_is h e 0 in
      ⊎_elim
      (λ (d : row_of h n u * s + s ≤ row_of h n (u - 1) * s). omega arith)
      (λ (d : row_of h n (u - 1) * s + s ≤ row_of h n u * s). omega arith)
      (rows_apart h n s u (u - 1) below (omega arith))

-- where the row is written and the other is as it was
pub only_farther : (h : Half) (s at : ℕ) (new old : ℕ → Pair) → Kept at (at + 2 * s) new old → ((i : ℕ) → i < s → new (at + farther (other h) s i) ≡ old (at + farther (other h) s i)) → Kept (at + farther h s 0) (at + farther h s s) new old
only_farther Lower s at new old k e = (
  λ p l. ⊎_elim (λ (a : at ≤ p). let q : at + (p - at) ≡ p = omega arith in subst (λ p. new p ≡ old p) q (e (p - at) (omega arith))) (λ (b : p < at). k.0 p b) (cases_le at p),
  λ p l. k.1 p (omega arith),
)
only_farther Upper s at new old k e = (
  λ p l. k.0 p (omega arith),
  λ p l.
      ⊎_elim
      (λ (a : at + 2 * s ≤ p). k.1 p a)
      (λ (b : p < at + 2 * s). let q : at + (s + (p - (at + s))) ≡ p = omega arith in subst (λ p. new p ≡ old p) q (e (p - (at + s)) (omega arith)))
      (cases_le (at + 2 * s) p),
)
