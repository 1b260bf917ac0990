-- The tables of the weights and of the binomials: the rule of each as one computed equation, that rule at one place, and what the weights are.
use Rattle.std.proofs.Common.{◌≡◌, ℕ, zero, suc, ◌+◌, ◌%◌, ◌<◌, ◌≤◌, Bool, true, false, ◌&&◌, eqb, leb, ◌⊎◌, List, map, get_or, sym, refl, ap, ◌∙◌, ⊎_elim, arith}
use Rattle.std.specs.List.{range_with_len}
use Rattle.std.proofs.lemmas.List.FromFn.{get_or-map-range_with_len}
use Rattle.std.proofs.lemmas.Bool.{and_parts, eqb-true, cases_lt}
use Rattle.std.proofs.lemmas.Bool.Decides.{nat_tests}
use Rattle.algebra.specs.Bernstein.{choose, share}
use Rattle.ticket.specs.Sizes.{common}
use Rattle.patch.specs.Weights.{weight_of}

-- ---- nine rows of nine numbers
unfoldable pub square : (ℕ → ℕ → ℕ) → List (List ℕ)
square f = map (λ k. map (f k) (range_with_len 0 9)) (range_with_len 0 9)

pub square_rule : (f : ℕ → ℕ → ℕ) (xs : List (List ℕ)) → xs ≡ square f → (e : List ℕ) (q r k i : ℕ) → q ≡ k → r ≡ i → k ≤ 8 → i ≤ 8 → get_or (get_or xs q e) r 0 ≡ f k i
unfolding square
square_rule f xs same e q r k i row place h j =
    ap (λ l. get_or (get_or l q e) r 0) same
    ∙ ap (λ l. get_or l r 0) (get_or-map-range_with_len (λ k. map (f k) (range_with_len 0 9)) 0 9 q k e (omega arith) (omega arith))
    ∙ get_or-map-range_with_len (f k) 0 9 r i 0 (omega arith) (omega arith)

-- ---- the weights, for the degrees 1 to 8
unfoldable pub whole : List (List (List ℕ))
whole = map (λ n. square (weight_of n)) (range_with_len 1 8)

pub rule : (xs : List (List (List ℕ))) → xs ≡ whole → (d : List (List ℕ)) (e : List ℕ) (p q r n k i : ℕ) → 1 + p ≡ n → q ≡ k → r ≡ i → n ≤ 8 → k ≤ 8 → i ≤ 8 → get_or (get_or (get_or xs p d) q e) r 0 ≡ weight_of n k i
unfolding whole
rule xs same d e p q r n k i degree row place g h j =
    ap (λ l. get_or (get_or (get_or l p d) q e) r 0) same
    ∙ ap (λ l. get_or (get_or l q e) r 0) (get_or-map-range_with_len (λ n. square (weight_of n)) 1 8 p n d (omega arith) degree)
    ∙ square_rule (weight_of n) (square (weight_of n)) refl e q r k i row place h j

-- what stands outside the table, as the code tests it
pub outside : (n k i : ℕ) (inside : Bool) → inside ≡ (leb 1 n && leb n 8) → ((inside ≡ true × k ≤ 8 × 8 < i) ⊎ ((inside ≡ true × 8 < k) ⊎ (inside ≡ false))) → 0 ≡ weight_of n k i
unfolding weight_of
outside n k i inside e h = grind (arith, nat_tests)

-- ---- a test that is passed by all numbers below n
abbrev every_below : ℕ → (ℕ → Bool) → Bool
every_below zero test = true
every_below (suc n) test = test n && every_below n test

below_passes : (n : ℕ) (test : ℕ → Bool) → every_below n test ≡ true → (k : ℕ) → k < n → test k ≡ true
below_passes zero test e k h = absurd (omega arith)
below_passes (suc n) test e k h =
    let p = and_parts (test n) (every_below n test) e in
    ⊎_elim (λ l. below_passes n test p.1 k l) (λ l. let q : n ≡ k = omega arith in ap test (sym q) ∙ p.0) (cases_lt k n)

-- ---- the common multiples and the weights
divided : ℕ → ℕ → Bool
divided n m = eqb (common n % choose n m) 0

all_divided : every_below 9 (λ n. every_below (suc n) (divided n)) ≡ true
unfolding divided
all_divided = refl

-- each binomial of a degree up to 8 divides their common multiple
pub common_divided : (n m : ℕ) → n ≤ 8 → m ≤ n → common n % choose n m ≡ 0
unfolding divided
common_divided n m h k = eqb-true _ _ (below_passes (suc n) (divided n) (below_passes 9 (λ j. every_below (suc j) (divided j)) all_divided n (omega arith)) m (omega arith))

shared : ℕ → ℕ → ℕ → Bool
shared n k i = eqb (weight_of (suc n) k i) (share (common (suc n)) (suc n) k i)

all_shared : every_below 8 (λ n. every_below (suc (suc n)) (λ k. every_below (suc (suc n)) (shared n k))) ≡ true
unfolding shared weight_of
all_shared = refl

shared_at : (n k i : ℕ) → n < 8 → k ≤ suc n → i ≤ suc n → weight_of (suc n) k i ≡ share (common (suc n)) (suc n) k i
unfolding shared
shared_at n k i h p q =
    eqb-true _ _ (below_passes (suc (suc n)) (shared n k)
    (below_passes (suc (suc n)) (λ k. every_below (suc (suc n)) (shared n k)) (below_passes 8 (λ n. every_below (suc (suc n)) (λ k. every_below (suc (suc n)) (shared n k))) all_shared n h) k (omega arith))
    i (omega arith))

-- the weights are the shares of the common multiple
pub weight_is_share : (n k i : ℕ) → 1 ≤ n → n ≤ 8 → k ≤ n → i ≤ n → weight_of n k i ≡ share (common n) n k i
weight_is_share zero k i some h p q = absurd (omega arith)
weight_is_share (suc n) k i some h p q = shared_at n k i (omega arith) p q
