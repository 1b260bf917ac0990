-- The first best: the one of one more, and that it is the first that none beats.
use Rattle.std.specs.Prelude.{◌≡◌, ℕ, zero, suc, ◌+◌, ◌<◌, ◌≤◌, Bool, true, false, cond, refl}
use Rattle.std.proofs.Common.{sym, ap, ◌∙◌, ⊎_elim, add-one, arith}
use Rattle.std.specs.Cmp.{IsStrictWeakOrder}
use Rattle.std.proofs.lemmas.Bool.{cases_lt}
use Rattle.chooser.specs.Best.{first_best}

pub best_next : (beats : ℕ → ℕ → Bool) (n b : ℕ) → b ≡ first_best beats n → cond (beats n b) n b ≡ first_best beats (n + 1)
best_next beats n b e = ap (λ m. cond (beats n m) n m) e ∙ sym (ap (first_best beats) (add-one n))

-- ---- a loop over the axes: b is the best of the first n
module _ (beats : ℕ → ℕ → Bool) (n b : ℕ) (e : b ≡ first_best beats n) where
  pub best_takes : beats n b ≡ true → n ≡ first_best beats (n + 1)
  best_takes h = ap (λ t. cond t n b) (sym h) ∙ best_next beats n b e

  pub best_keeps : beats n b ≡ false → b ≡ first_best beats (n + 1)
  best_keeps h = ap (λ t. cond t n b) (sym h) ∙ best_next beats n b e

-- ---- what the first best is
pub record First (beats : ℕ → ℕ → Bool) (n b : ℕ) : Type 0 where
  pub inside : b < n
  pub unbeaten : (k : ℕ) → k < n → beats k b ≡ false
  pub lowest : (k : ℕ) → k < b → beats b k ≡ true

module _ (beats : ℕ → ℕ → Bool) (o : IsStrictWeakOrder beats) where
  not_itself : (t : Bool) (k : ℕ) → beats k k ≡ t → beats k k ≡ false
  not_itself true k e = o.one_way k k e
  not_itself false k e = e

  -- what beats the best beats all that the best is not beaten by
  beats_too : (t : Bool) (x b k : ℕ) → beats x b ≡ true → beats k b ≡ false → beats x k ≡ t → beats x k ≡ true
  beats_too true x b k p q e = e
  beats_too false x b k p q e = let r : beats x b ≡ false = o.chain x k b e q in cc

  module _ (n b : ℕ) (f : First beats n b) where
    one_more : (t : Bool) → beats n b ≡ t → First beats (suc n) (cond t n b)
    one_more true e =
        record {
          inside = omega arith;
          unbeaten = λ k l. ⊎_elim (λ (h : k < n). o.chain k b n (f.unbeaten k h) (o.one_way n b e)) (λ (h : n ≤ k). let s : k ≡ n = omega arith in ap (λ m. beats m n) s ∙ not_itself (beats n n) n refl) (cases_lt k n);
          lowest = λ k l. beats_too (beats n k) n b k e (f.unbeaten k l) refl;
        }
    one_more false e =
        record {
          inside = omega (arith, f.inside);
          unbeaten = λ k l. ⊎_elim (λ (h : k < n). f.unbeaten k h) (λ (h : n ≤ k). let s : k ≡ n = omega arith in ap (λ m. beats m b) s ∙ e) (cases_lt k n);
          lowest = f.lowest;
        }

  at_one : (t : Bool) → beats 0 0 ≡ t → First beats 1 (cond t 0 0)
  at_one true e = let r : beats 0 0 ≡ false = o.one_way 0 0 e in absurd (let z : ⊥ = cc in z)
  at_one false e = record { inside = omega arith; unbeaten = λ k l. let s : k ≡ 0 = omega arith in ap (λ m. beats m 0) s ∙ e; lowest = λ k l. absurd (let z : ⊥ = omega arith in z) }

  pub first_is : (n : ℕ) → 1 ≤ n → First beats n (first_best beats n)
  first_is zero l = absurd (let z : ⊥ = omega arith in z)
  first_is (suc zero) l = at_one (beats 0 0) refl
  first_is (suc (suc n)) l = let b : ℕ = first_best beats (suc n) in one_more (suc n) b (first_is (suc n) (omega arith)) (beats (suc n) b) refl
