-- Lists of a known length, taken apart; and tests that every element passes.
use Rattle.std.proofs.Common.{◌≡◌, ℕ, suc, Bool, true, ◌&&◌, List, [], ◌∷◌, ◌++◌, length, refl, ap, ◌∙◌, arith}
use Rattle.std.proofs.lemmas.Bool.{and_parts}
use Rattle.ticket.specs.WellFormed.{all}

pub both : {a b : Bool} → a ≡ true → b ≡ true → (a && b) ≡ true
both {b} p q = ap (λ t. t && b) p ∙ q

pub all_push : {X : Type 0} (test : X → Bool) (xs : List X) (x : X) → all test xs ≡ true → test x ≡ true → all test (xs ++ x ∷ []) ≡ true
all_push test [] x p q = both q refl
all_push test (y ∷ ys) x p q = let e = and_parts (test y) (all test ys) p in both e.0 (all_push test ys x e.1 q)

-- no elements
pub by_none : (P : List ℕ → Type 0) → P [] → (l : List ℕ) → length l ≡ 0 → P l
by_none P p [] e = p
by_none P p (x ∷ l) e = absurd (omega arith)

-- one element, and n more
pub by_one : (n : ℕ) (P : List ℕ → Type 0) → ((x : ℕ) (l : List ℕ) → length l ≡ n → P (x ∷ l)) → (l : List ℕ) → length l ≡ suc n → P l
by_one n P f [] e = absurd (omega arith)
by_one n P f (x ∷ l) e = f x l (omega arith)

pub by_four : (P : List ℕ → Type 0) → ((a b c d : ℕ) → P (a ∷ b ∷ c ∷ d ∷ [])) → (l : List ℕ) → length l ≡ 4 → P l
by_four P f =
    by_one 3 P λ a. by_one 2 (λ l. P (a ∷ l)) λ b. by_one 1 (λ l. P (a ∷ b ∷ l)) λ c. by_one 0 (λ l. P (a ∷ b ∷ c ∷ l)) λ d.
    by_none (λ l. P (a ∷ b ∷ c ∷ d ∷ l)) (f a b c d)

-- the first four of n + 4
pub by_four_more : (n : ℕ) (P : List ℕ → Type 0) → ((a b c d : ℕ) (l : List ℕ) → length l ≡ n → P (a ∷ b ∷ c ∷ d ∷ l)) → (l : List ℕ) → length l ≡ suc (suc (suc (suc n))) → P l
by_four_more n P f =
    by_one _ P λ a. by_one _ (λ l. P (a ∷ l)) λ b. by_one _ (λ l. P (a ∷ b ∷ l)) λ c. by_one n (λ l. P (a ∷ b ∷ c ∷ l)) λ d l.
    f a b c d l
