-- The words mean what they say: a tree whose leaves are settled makes the inequality true everywhere, and a corner that breaks it makes it false.
use Rattle.std.proofs.Common.{◌≡◌, ℕ, ◌+◌, true, ◌⊎◌, List, ◌∷◌, Some, sym, subst, inl, inr, ⊎_elim}
use Rattle.std.specs.List.{AllByRecursion}
use Rattle.algebra.specs.Form.{other}
use Rattle.algebra.specs.declared.half.Half.{Half}
use Rattle.algebra.specs.declared.half.Half.TheVariants.{Lower, Upper}
use Rattle.ticket.specs.WellFormed.{Content, Formed}
use Rattle.patch.specs.Point.{Point, LiesIn, TrueAt}
use Rattle.patch.specs.Box.{BetweenEnds, Coordinate, coordinates, point_of}
use Rattle.patch.specs.FirstPatch.{turned}
use Rattle.patch.specs.Meaning.{Refutes}
use Rattle.patch.proofs.Box.{whole_covers, halves_cover}
use Rattle.patch.proofs.Turned.{turned_is_same}
use Rattle.patch.proofs.Meaning.{all_satisfied_is_true_inside, found_corner_is_false}
use Rattle.chooser.specs.Choice.{Meaning, Picks}
use Rattle.search.specs.Search.{Piece, Search, whole, half_of, question_of, axis_of, is_clear, violation, Outcome, settled, broken, too_deep, too_large, split, examine, after, word}
use Rattle.search.specs.Courses.{Course, reached}
use Rattle.search.specs.declared.word.Word.TheVariants.{Fails, Holds}
use Rattle.search.proofs.Keeping.{void, over, keep}
use Rattle.search.proofs.Words.{fails_points}
use Rattle.search.proofs.Outcomes.{tells}
use Rattle.search.proofs.Pieces.{Faithful, whole_is_faithful, half_is_faithful, axis_is_there}
use Rattle.search.proofs.Trees.{Settles, leaf, node, holds_settles}

-- the point lies in the piece, at its ends too
abbrev Has : Content → Piece → Point → Type 0
Has c x p = BetweenEnds c.axes x.box p

whole_has : (c : Content) (p : Point) → Formed c → LiesIn c.axes p → Has c (whole c) p
unfolding whole
whole_has c p formed h = whole_covers c p formed h

lower_or_upper : (c : Content) (j : ℕ) (x : Piece) (p : Point) → Has c x p → Has c (half_of c Lower j x) p ⊎ Has c (half_of c Upper j x) p
unfolding half_of
lower_or_upper c j x p h = halves_cover c.axes x.box j p h

one_or_other : (c : Content) (h : Half) (j : ℕ) (x : Piece) (p : Point) → Has c x p → Has c (half_of c h j x) p ⊎ Has c (half_of c (other h) j x) p
one_or_other c Lower j x p k = lower_or_upper c j x p k
one_or_other c Upper j x p k = ⊎_elim (λ z. inr z) (λ z. inl z) (lower_or_upper c j x p k)

module _ (c : Content) (μ : Meaning) (formed : Formed c) (picks : Picks μ) where
  -- ---- true
  clear_is_true : (x : Piece) → Faithful c x → is_clear c x ≡ true → (p : Point) → Has c x p → TrueAt (turned c) p
  unfolding is_clear
  clear_is_true x f e p h = all_satisfied_is_true_inside c x.box x.patch formed f.represents e p h

  half_faithful : (h : Half) (x y : Piece) → Faithful c x → y ≡ half_of c h (axis_of c μ x) x → Faithful c y
  half_faithful h x y f e = subst (Faithful c) (sym e) (half_is_faithful c h (axis_of c μ x) x (axis_is_there c μ formed picks x) f)

  settled_is_true : (limit d : ℕ) (x : Piece) → Faithful c x → Settles c limit μ d x → (p : Point) → Has c x p → TrueAt (turned c) p
  settled_is_true limit d x f (leaf e) p h = clear_is_true x f (tells c limit μ d x settled e) p h
  settled_is_true limit d x f (node {y = y} {z = z} e u v) p h =
      let t = tells c limit μ d x (split y z) e in
      ⊎_elim
      (λ k. settled_is_true limit d y (half_faithful _ x y f t.one) u p (subst (λ w. Has c w p) (sym t.one) k))
      (λ k. settled_is_true limit d z (half_faithful _ x z f t.two) v p (subst (λ w. Has c w p) (sym t.two) k))
      (one_or_other c (μ (question_of c μ x)).1 (axis_of c μ x) x p h)

  pub holds_is_true : (r : Course) → word (reached c μ r) ≡ Holds → (p : Point) → LiesIn c.axes p → TrueAt c p
  holds_is_true r e p h =
      (turned_is_same c p).0 (settled_is_true r.limit (reached c μ r).depth (whole c) (whole_is_faithful c formed) (holds_settles c μ r e) p (whole_has c p formed h))

  -- ---- false
  violation_is_false : (x : Piece) (es : List Half) → Faithful c x → violation c x ≡ Some es → Refutes c (point_of (coordinates c.axes x.box es))
  unfolding violation
  violation_is_false x es f e =
      let k = found_corner_is_false c x.box x.patch es formed f.represents f.placed e in
      record { lies = k.lies; false_there = λ t. k.false_there ((turned_is_same c _).1 t) }

  record Shown (s : Search) : Type 0 where
    faithful : AllByRecursion (Faithful c) s.waiting
    refutes : (p : List Coordinate) → s.corner ≡ Some p → Refutes c (point_of p)

  keeps_shown : (limit : ℕ) (s : Search) (x : Piece) (xs : List Piece) → Shown (over s (x ∷ xs)) → (o : Outcome) → examine c limit μ s.depth x ≡ o → Shown (after c s x xs o)
  keeps_shown limit s x xs h o e = record { faithful = pieces o e; refutes = corner o e }
    where
      pieces : (o : Outcome) → examine c limit μ s.depth x ≡ o → AllByRecursion (Faithful c) (after c s x xs o).waiting
      pieces settled e = h.faithful.1
      pieces (broken es) e = tt
      pieces too_deep e = h.faithful.1
      pieces too_large e = h.faithful.1
      pieces (split y z) e =
          let t = tells c limit μ s.depth x (split y z) e in
          (half_faithful _ x y h.faithful.0 t.one, (half_faithful _ x z h.faithful.0 t.two, h.faithful.1))

      corner : (o : Outcome) → examine c limit μ s.depth x ≡ o → (p : List Coordinate) → (after c s x xs o).corner ≡ Some p → Refutes c (point_of p)
      corner settled e p f = h.refutes p f
      corner (broken es) e p f =
          let g : coordinates c.axes x.box es ≡ p = cc in
          subst (λ q. Refutes c (point_of q)) g (violation_is_false x es h.faithful.0 (tells c limit μ s.depth x (broken es) e).1)
      corner too_deep e p f = h.refutes p f
      corner too_large e p f = h.refutes p f
      corner (split y z) e p f = h.refutes p f

  shown : (r : Course) → Shown (reached c μ r)
  shown r = keep c μ Shown r (keeps_shown r.limit) (λ d. record { faithful = (whole_is_faithful c formed, tt); refutes = λ p f. absurd (void (cc)) })

  pub fails_is_false : (r : Course) → word (reached c μ r) ≡ Fails → (p : List Coordinate) × ((reached c μ r).corner ≡ Some p) × Refutes c (point_of p)
  fails_is_false r e =
      let w = fails_points (reached c μ r).waiting (reached c μ r).corner ((reached c μ r).aside_depth + (reached c μ r).aside_range) e in
      (w.0, w.2, (shown r).refutes w.0 w.2)
