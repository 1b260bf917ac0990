-- A text that a loop writes part by part.
use Rattle.std.proofs.Common.{◌≡◌, ℕ, ◌+◌, ◌<◌, ◌≤◌, List, [], ◌∷◌, ◌++◌, length, get_or, drop, sym, ap, ◌∙◌, append_assoc, append-nil, add-one, drop-cons}
use Rattle.std.specs.declared.fmt.Formatter.{Formatter}
use Rattle.std.specs.Fmt.{HasWritten}
use Rattle.std.proofs.lemmas.List.{drop_all}
use Rattle.page.specs.Text.{numbered}
use Rattle.std.proofs.Output.{has_written_append, has_written_of_eq}

-- from f to g all of the text is written but for the rest
pub record SoFar {W : Type 0} (took : W → List ℕ → W → Type 0) (f g : Formatter W) (rest whole : List ℕ) : Type 0 where
  pub text : List ℕ
  pub put : HasWritten took f text g
  pub joins : text ++ rest ≡ whole

module _ {W : Type 0} (took : W → List ℕ → W → Type 0) where
  -- a turn writes x, which what was left begins with
  pub so_far_more : (f g h : Formatter W) (x left rest whole : List ℕ) → SoFar took f g left whole → left ≡ x ++ rest → HasWritten took g x h → SoFar took f h rest whole
  so_far_more f g h x left rest whole s e p = record {
    text = s.text ++ x;
    put = has_written_append took f s.text g x h s.put p;
    joins = append_assoc s.text x rest ∙ ap (λ (l : List ℕ). s.text ++ l) (sym e) ∙ s.joins;
  }

  pub so_far_all : (f g : Formatter W) (left whole : List ℕ) → SoFar took f g left whole → left ≡ [] → HasWritten took f whole g
  so_far_all f g left whole s e = has_written_of_eq took f s.text whole g (sym (append-nil s.text) ∙ ap (λ (l : List ℕ). s.text ++ l) (sym e) ∙ s.joins) s.put

-- the first of what is left, and the rest of it
pub numbered_more : {X : Type 0} (text : ℕ → X → List ℕ) (xs : List X) (j : ℕ) (d : X) → j < length xs → numbered text j (drop j xs) ≡ text j (get_or xs j d) ++ numbered text (j + 1) (drop (j + 1) xs)
numbered_more text xs j d h = ap (numbered text j) (drop-cons xs j d h ∙ ap (λ (k : ℕ). get_or xs j d ∷ drop k xs) (sym (add-one j)))

pub numbered_all : {X : Type 0} (text : ℕ → X → List ℕ) (xs : List X) (j : ℕ) → length xs ≤ j → numbered text j (drop j xs) ≡ []
numbered_all text xs j h = ap (numbered text j) (drop_all j xs h)
