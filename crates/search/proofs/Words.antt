-- What each word tells, and what tells each word.
use Rattle.std.proofs.Common.{◌≡◌, ℕ, zero, suc, cond, eqb, List, [], ◌∷◌, length, is_some, Some, None, Option, refl, arith}
use Rattle.std.proofs.lemmas.Bool.{ne_eqb}
use Rattle.patch.specs.Box.{Coordinate}
use Rattle.search.specs.Search.{Piece, word_of}
use Rattle.search.specs.Courses.{Finished}
use Rattle.search.specs.declared.word.Word.TheVariants.{Running, Fails, Holds, Open}
use Rattle.search.proofs.Keeping.{void}

pub running_waits : (xs : List Piece) (o : Option (List Coordinate)) (n : ℕ) → word_of xs o n ≡ Running → (x : Piece) × (rest : List Piece) × (xs ≡ x ∷ rest)
running_waits (x ∷ xs) o n e = (x, xs, refl)
running_waits [] (Some p) n e = absurd (void (cc))
running_waits [] None zero e = absurd (void (cc))
running_waits [] None (suc n) e = absurd (void (cc))

pub fails_points : (xs : List Piece) (o : Option (List Coordinate)) (n : ℕ) → word_of xs o n ≡ Fails → (p : List Coordinate) × (xs ≡ []) × (o ≡ Some p)
fails_points (x ∷ xs) o n e = absurd (void (cc))
fails_points [] (Some p) n e = (p, refl, refl)
fails_points [] None zero e = absurd (void (cc))
fails_points [] None (suc n) e = absurd (void (cc))

pub holds_clears : (xs : List Piece) (o : Option (List Coordinate)) (n : ℕ) → word_of xs o n ≡ Holds → (xs ≡ []) × (o ≡ None) × (n ≡ 0)
holds_clears (x ∷ xs) o n e = absurd (void (cc))
holds_clears [] (Some p) n e = absurd (void (cc))
holds_clears [] None zero e = (refl, refl, refl)
holds_clears [] None (suc n) e = absurd (void (cc))

pub finished_waits_not : (xs : List Piece) (o : Option (List Coordinate)) (n : ℕ) → Finished (word_of xs o n) → xs ≡ []
finished_waits_not (x ∷ xs) o n f = absurd (f refl)
finished_waits_not [] o n f = refl

-- the word by tests, as a program asks them
pub word_by_tests : (xs : List Piece) (o : Option (List Coordinate)) (n : ℕ) → word_of xs o n ≡ cond (eqb (length xs) 0) (cond (is_some o) Fails (cond (eqb n 0) Holds Open)) Running
word_by_tests (x ∷ xs) o n = rw (ne_eqb (suc (length xs)) 0 (λ e. absurd (omega arith)))
word_by_tests [] (Some p) n = refl
word_by_tests [] None zero = refl
word_by_tests [] None (suc n) = rw (ne_eqb (suc n) 0 (λ e. absurd (omega arith)))
