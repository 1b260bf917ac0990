-- Where no box was set aside for range, the limit does not matter.
use Rattle.std.proofs.Common.{◌≡◌, ℕ, zero, suc, ◌≤◌, Bool, true, false, eqb, List, [], ◌∷◌, Some, None, Option, sym, refl, ap, ◌∙◌, subst, ap₂, arith}
use Rattle.algebra.specs.declared.half.Half.{Half}
use Rattle.ticket.specs.WellFormed.{Content}
use Rattle.chooser.specs.Choice.{Meaning}
use Rattle.search.specs.Search.{Piece, Search, level, is_clear, violation, may_halve, first_half, second_half, judged, Outcome, settled, broken, too_deep, too_large, split, start, after, step_over, step, steps}
use Rattle.search.specs.Courses.{Course, reached}
use Rattle.search.proofs.Keeping.{keep_steps}
use Rattle.search.proofs.Standing.{standing, stands}

module _ (c : Content) (s : Search) (x : Piece) (xs : List Piece) where
  range_grows : (a : ℕ) → a ≤ s.aside_range → (o : Outcome) → a ≤ (after c s x xs o).aside_range
  range_grows a h settled = h
  range_grows a h (broken es) = h
  range_grows a h too_deep = h
  range_grows a h too_large = omega arith
  range_grows a h (split y z) = h

  judged_same : (clear : Bool) (corner : Option (List Half)) (deep grows grows' : Bool) (y z : Piece) →
      (after c s x xs (judged clear corner deep grows y z)).aside_range ≡ 0 → (after c s x xs (judged clear corner deep grows' y z)).aside_range ≡ 0 →
      judged clear corner deep grows y z ≡ judged clear corner deep grows' y z
  judged_same true corner deep grows grows' y z e f = refl
  judged_same false (Some es) deep grows grows' y z e f = refl
  judged_same false None true grows grows' y z e f = refl
  judged_same false None false true true y z e f = refl
  judged_same false None false true false y z e f = absurd (omega arith)
  judged_same false None false false true y z e f = absurd (omega arith)
  judged_same false None false false false y z e f = refl

module _ (c : Content) (μ : Meaning) where
  range_only_grows : (limit n : ℕ) (s : Search) → s.aside_range ≤ (steps c limit μ n s).aside_range
  range_only_grows limit n s = keep_steps c limit μ (λ t. s.aside_range ≤ t.aside_range) (λ t x xs h o e. range_grows c t x xs s.aside_range h o) n s (omega arith)

  module _ (l l' : ℕ) where
    same_over : (s : Search) (xs : List Piece) → (step_over c l μ s xs).aside_range ≡ 0 → (step_over c l' μ s xs).aside_range ≡ 0 → step_over c l μ s xs ≡ step_over c l' μ s xs
    same_over s [] e f = refl
    same_over s (x ∷ xs) e f =
        ap (after c s x xs)
        (judged_same c s x xs (is_clear c x) (violation c x) (eqb (level x.box) s.depth) (may_halve c μ l x) (may_halve c μ l' x) (first_half c μ x) (second_half c μ x) e f)

    same_steps : (n : ℕ) (s : Search) → (steps c l μ n s).aside_range ≡ 0 → (steps c l' μ n s).aside_range ≡ 0 → steps c l μ n s ≡ steps c l' μ n s
    same_steps zero s e f = refl
    same_steps (suc n) s e f =
        let g : step c l μ s ≡ step c l' μ s = same_over s s.waiting (omega (arith, range_only_grows l n (step c l μ s))) (omega (arith, range_only_grows l' n (step c l' μ s))) in
        same_steps n (step c l μ s) e (subst (λ t. (steps c l' μ n t).aside_range ≡ 0) (sym g) f) ∙ ap (steps c l' μ n) g

  pub same_in_range : (r r' : Course) → (reached c μ r).depth ≡ (reached c μ r').depth → (reached c μ r).examined ≡ (reached c μ r').examined →
      (reached c μ r).aside_range ≡ 0 → (reached c μ r').aside_range ≡ 0 → reached c μ r ≡ reached c μ r'
  same_in_range r r' d n e f =
      let u = stands c μ r in
      let v : reached c μ r' ≡ standing c r'.limit μ (reached c μ r).examined (reached c μ r).depth = stands c μ r' ∙ ap₂ (standing c r'.limit μ) (sym n) (sym d) in
      u
      ∙ same_steps r.limit r'.limit (reached c μ r).examined (start c (reached c μ r).depth) (ap (λ t. t.aside_range) (sym u) ∙ e) (ap (λ t. t.aside_range) (sym v) ∙ f)
      ∙ sym v
