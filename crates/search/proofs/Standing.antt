-- A search stands where examining so many boxes at its depth leads.
use Rattle.std.proofs.Common.{◌≡◌, ℕ, zero, suc, ◌+◌, List, ◌∷◌, sym, refl, ap, ◌∙◌, ap₂, add-one}
use Rattle.ticket.specs.WellFormed.{Content}
use Rattle.chooser.specs.Choice.{Meaning}
use Rattle.search.specs.Search.{Piece, Search, Outcome, settled, broken, too_deep, too_large, split, examine, start, after, step, steps}
use Rattle.search.specs.Courses.{Course, reached}
use Rattle.search.proofs.Keeping.{over, keep}

-- the state after so many boxes at a depth
abbrev pub standing : Content → ℕ → Meaning → ℕ → ℕ → Search
standing c limit μ n d = steps c limit μ n (start c d)

module _ (c : Content) (limit : ℕ) (μ : Meaning) where
  step_after_steps : (n : ℕ) (s : Search) → steps c limit μ (suc n) s ≡ step c limit μ (steps c limit μ n s)
  step_after_steps zero s = refl
  step_after_steps (suc n) s = step_after_steps n (step c limit μ s)

  abbrev Stands : Search → Type 0
  Stands s = s ≡ standing c limit μ s.examined s.depth

  one_further : (s : Search) (x : Piece) (xs : List Piece) → Stands (over s (x ∷ xs)) → (o : Outcome) → examine c limit μ s.depth x ≡ o →
      after c s x xs o ≡ standing c limit μ (s.examined + 1) s.depth
  one_further s x xs h o e =
      ap (after c s x xs) (sym e)
      ∙ ap (step c limit μ) h
      ∙ sym (step_after_steps s.examined (start c s.depth))
      ∙ ap (λ n. standing c limit μ n s.depth) (sym (add-one s.examined))

  keeps_standing : (s : Search) (x : Piece) (xs : List Piece) → Stands (over s (x ∷ xs)) → (o : Outcome) → examine c limit μ s.depth x ≡ o → Stands (after c s x xs o)
  keeps_standing s x xs h settled e = one_further s x xs h settled e
  keeps_standing s x xs h (broken es) e = one_further s x xs h (broken es) e
  keeps_standing s x xs h too_deep e = one_further s x xs h too_deep e
  keeps_standing s x xs h too_large e = one_further s x xs h too_large e
  keeps_standing s x xs h (split y z) e = one_further s x xs h (split y z) e

module _ (c : Content) (μ : Meaning) where
  pub stands : (r : Course) → reached c μ r ≡ standing c r.limit μ (reached c μ r).examined (reached c μ r).depth
  stands r = keep c μ (Stands c r.limit μ) r (keeps_standing c r.limit μ) (λ d. refl)

  pub same_standing : (r r' : Course) → r.limit ≡ r'.limit → (reached c μ r).depth ≡ (reached c μ r').depth → (reached c μ r).examined ≡ (reached c μ r').examined →
      reached c μ r ≡ reached c μ r'
  same_standing r r' l d n =
      stands r
      ∙ ap₂ (standing c r.limit μ) n d
      ∙ ap (λ m. standing c m μ (reached c μ r').examined (reached c μ r').depth) l
      ∙ sym (stands r')
