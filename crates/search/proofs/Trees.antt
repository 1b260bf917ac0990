-- The word of a finished search is decided by the tree of the whole box: all its leaves are settled, or one of its boxes is broken. A deeper
-- or wider search has such a tree too.
use Rattle.std.proofs.Common.{◌≡◌, ℕ, suc, ◌+◌, ◌^◌, ◌≤◌, true, leb, ◌⊎◌, List, [], ◌∷◌, pos, Some, None, sym, refl, ap, ◌∙◌, subst, inl, inr, arith}
use Rattle.std.specs.List.{AllByRecursion}
use Rattle.std.proofs.lemmas.Bool.Decides.{leb_tells}
use Rattle.std.proofs.lemmas.Bool.{and_parts, and_from}
use Rattle.algebra.specs.Pair.{Pair, multiple}
use Rattle.algebra.specs.declared.half.Half.{Half}
use Rattle.number.specs.Limits.{is_within, fits, may_grow}
use Rattle.ticket.specs.WellFormed.{Content}
use Rattle.patch.specs.Judging.{all_grow}
use Rattle.patch.specs.Box.{Coordinate}
use Rattle.chooser.specs.Choice.{Meaning}
use Rattle.search.specs.Search.{Piece, Search, level, whole, half_of, may_halve, Outcome, settled, broken, too_deep, too_large, split, examine, after, word_of, word}
use Rattle.search.specs.Courses.{Course, reached, Finished, Decided}
use Rattle.search.specs.declared.word.Word.TheVariants.{Fails, Holds}
use Rattle.search.proofs.Keeping.{void, over, keep}
use Rattle.search.proofs.Words.{fails_points, holds_clears, finished_waits_not}
use Rattle.search.proofs.Outcomes.{Splits, tells, clear_settles, violation_breaks, splits_split}
use Rattle.search.proofs.Pieces.{whole_has_box, half_has_box, whole_level, half_level_most}
use Rattle.search.proofs.Steps.{same_depth}

-- ---- trees
-- every leaf of the piece's tree is settled
pub data Settles (c : Content) (limit : ℕ) (μ : Meaning) (d : ℕ) : Piece → Type 0 where
  leaf : {x : Piece} → examine c limit μ d x ≡ settled → Settles c limit μ d x
  node : {x y z : Piece} → examine c limit μ d x ≡ split y z → Settles c limit μ d y → Settles c limit μ d z → Settles c limit μ d x

-- a box of the piece's tree is broken
pub data Breaks (c : Content) (limit : ℕ) (μ : Meaning) (d : ℕ) : Piece → Type 0 where
  here : {x : Piece} (es : List Half) → examine c limit μ d x ≡ broken es → Breaks c limit μ d x
  first : {x y z : Piece} → examine c limit μ d x ≡ split y z → Breaks c limit μ d y → Breaks c limit μ d x
  second : {x y z : Piece} → examine c limit μ d x ≡ split y z → Breaks c limit μ d z → Breaks c limit μ d x

abbrev Among : (Piece → Type 0) → List Piece → Type 0
Among P [] = ⊥
Among P (x ∷ xs) = P x ⊎ Among P xs

-- ---- a larger depth and limit
wider_part : (a m n : ℕ) → m ≤ n → leb a m ≡ true → leb a n ≡ true
wider_part a m n h e = grind (arith, leb_tells)

wider_pair : (m l : ℕ) → m ≤ l → (x : Pair) → fits m x ≡ true → fits l x ≡ true
wider_pair m l h x e =
    let p = and_parts (is_within m x.value) (is_within m x.drift) e in
    and_from (is_within l x.value) (is_within l x.drift) (wider_part _ m l h p.0) (wider_part _ m l h p.1)

wider_grows : (m l n : ℕ) → m ≤ l → (b : List Pair) → all_grow m n b ≡ true → all_grow l n b ≡ true
wider_grows m l n h [] e = refl
wider_grows m l n h (x ∷ b) e =
    let p = and_parts (may_grow m n x) (all_grow m n b) e in
    and_from (may_grow l n x) (all_grow l n b) (wider_pair m l h (multiple (pos (2 ^ n)) x) p.0) (wider_grows m l n h b p.1)

module _ (c : Content) (μ : Meaning) (m l d e : ℕ) (wide : m ≤ l) (deep : d ≤ e) where
  half_most : (x : Piece) (h : Half) (j : ℕ) → level (half_of c h j x).box ≤ suc (level x.box)
  half_most x h j = omega (arith, ap level (half_has_box c h j x), half_level_most h j x.box)

  splits_further : (x y z : Piece) → level x.box ≤ d → Splits c m μ d x y z → Splits c l μ e x y z
  unfolding may_halve
  splits_further x y z h s =
      record { unclear = s.unclear; unbroken = s.unbroken; shallow = omega (arith, s.shallow); grows = wider_grows m l _ wide x.patch s.grows; one = s.one; two = s.two }

  split_further : (x y z : Piece) → level x.box ≤ d → examine c m μ d x ≡ split y z → (examine c l μ e x ≡ split y z) × (level y.box ≤ d) × (level z.box ≤ d)
  split_further x y z h f =
      let s = tells c m μ d x (split y z) f in
      let u : level y.box ≤ suc (level x.box) = subst (λ w. level w.box ≤ suc (level x.box)) (sym s.one) (half_most x _ _) in
      let v : level z.box ≤ suc (level x.box) = subst (λ w. level w.box ≤ suc (level x.box)) (sym s.two) (half_most x _ _) in
      (splits_split c l μ e x (splits_further x y z h s), omega (arith, s.shallow), omega (arith, s.shallow))

  settles_further : (x : Piece) → level x.box ≤ d → Settles c m μ d x → Settles c l μ e x
  settles_further x h (leaf f) = leaf (clear_settles c l μ e x (tells c m μ d x settled f))
  settles_further x h (node {y = y} {z = z} f u v) =
      let s = split_further x y z h f in node s.0 (settles_further y s.1 u) (settles_further z s.2 v)

  breaks_further : (x : Piece) → level x.box ≤ d → Breaks c m μ d x → Breaks c l μ e x
  breaks_further x h (here es f) = let t = tells c m μ d x (broken es) f in here es (violation_breaks c l μ e x es t.0 t.1)
  breaks_further x h (first {y = y} {z = z} f u) = let s = split_further x y z h f in first s.0 (breaks_further y s.1 u)
  breaks_further x h (second {y = y} {z = z} f u) = let s = split_further x y z h f in second s.0 (breaks_further z s.2 u)

module _ (c : Content) (limit : ℕ) (μ : Meaning) where
  abbrev Settled : Search → Piece → Type 0
  Settled s x = Settles c limit μ s.depth x

  abbrev Broken : Search → Piece → Type 0
  Broken s x = Breaks c limit μ s.depth x

  abbrev Failed : Search → Type 0
  Failed s = (s.waiting ≡ []) × ((p : List Coordinate) × (s.corner ≡ Some p))

  -- ---- from the word to the tree
  -- if all that waits is going to be settled, the whole is
  abbrev Clearing : Search → Type 0
  Clearing s = s.aside_depth ≡ 0 → s.aside_range ≡ 0 → AllByRecursion (Settled s) s.waiting → Settled s (whole c) ⊎ Failed s

  not_failed : (s : Search) (x : Piece) (xs : List Piece) → Settled s (whole c) ⊎ Failed (over s (x ∷ xs)) → Settled s (whole c)
  not_failed s x xs (inl h) = h
  not_failed s x xs (inr h) = let e = h.0 in absurd (void (cc))

  keeps_clearing : (s : Search) (x : Piece) (xs : List Piece) → Clearing (over s (x ∷ xs)) → (o : Outcome) → examine c limit μ s.depth x ≡ o → Clearing (after c s x xs o)
  keeps_clearing s x xs h settled e p q all = inl (not_failed s x xs (h p q (leaf e, all)))
  keeps_clearing s x xs h (broken es) e p q all = inr (refl, (_, refl))
  keeps_clearing s x xs h too_deep e p q all = absurd (omega arith)
  keeps_clearing s x xs h too_large e p q all = absurd (omega arith)
  keeps_clearing s x xs h (split y z) e p q all = inl (not_failed s x xs (h p q (node e all.0 all.1.0, all.1.1)))

  -- a corner, or a waiting piece that is going to break, means that the whole breaks
  abbrev Breaking : Search → Type 0
  Breaking s = ((p : List Coordinate) → s.corner ≡ Some p → Broken s (whole c)) × (Among (Broken s) s.waiting → Broken s (whole c))

  keeps_breaking : (s : Search) (x : Piece) (xs : List Piece) → Breaking (over s (x ∷ xs)) → (o : Outcome) → examine c limit μ s.depth x ≡ o → Breaking (after c s x xs o)
  keeps_breaking s x xs h settled e = (h.0, λ z. h.1 (inr z))
  keeps_breaking s x xs h (broken es) e = (λ p f. h.1 (inl (here es e)), λ z. absurd z)
  keeps_breaking s x xs h too_deep e = (h.0, λ z. h.1 (inr z))
  keeps_breaking s x xs h too_large e = (h.0, λ z. h.1 (inr z))
  keeps_breaking s x xs h (split y z) e = (h.0, found)
    where
      found : Among (Broken s) (y ∷ z ∷ xs) → Broken s (whole c)
      found (inl u) = h.1 (inl (first e u))
      found (inr (inl u)) = h.1 (inl (second e u))
      found (inr (inr u)) = h.1 (inr u)

  -- ---- from the tree to the word
  record Clean (s : Search) : Type 0 where
    uncornered : s.corner ≡ None
    none_deep : s.aside_depth ≡ 0
    none_large : s.aside_range ≡ 0
    all_settle : AllByRecursion (Settled s) s.waiting

  halves_settle : (s : Search) (x y z : Piece) → examine c limit μ s.depth x ≡ split y z → Settled s x → Settled s y × Settled s z
  halves_settle s x y z e (leaf f) = absurd (void (cc))
  halves_settle s x y z e (node {y = u} {z = v} f h k) =
      let i : u ≡ y = cc in let j : v ≡ z = cc in (subst (Settled s) i h, subst (Settled s) j k)

  settles_or_splits : (s : Search) (x : Piece) (o : Outcome) → examine c limit μ s.depth x ≡ o → (o ≡ settled → ⊥) → ((y z : Piece) → o ≡ split y z → ⊥) → Settled s x → ⊥
  settles_or_splits s x o e h k (leaf f) = h (sym e ∙ f)
  settles_or_splits s x o e h k (node f u v) = k _ _ (sym e ∙ f)

  clean_after : (s : Search) (x : Piece) (xs : List Piece) → Clean (over s (x ∷ xs)) → (o : Outcome) → examine c limit μ s.depth x ≡ o → Clean (after c s x xs o)
  clean_after s x xs k settled e = record { uncornered = k.uncornered; none_deep = k.none_deep; none_large = k.none_large; all_settle = k.all_settle.1 }
  clean_after s x xs k (broken es) e = absurd (settles_or_splits s x (broken es) e (λ f. void (cc)) (λ y z f. void (cc)) k.all_settle.0)
  clean_after s x xs k too_deep e = absurd (settles_or_splits s x too_deep e (λ f. void (cc)) (λ y z f. void (cc)) k.all_settle.0)
  clean_after s x xs k too_large e = absurd (settles_or_splits s x too_large e (λ f. void (cc)) (λ y z f. void (cc)) k.all_settle.0)
  clean_after s x xs k (split y z) e =
      let u = halves_settle s x y z e k.all_settle.0 in
      record { uncornered = k.uncornered; none_deep = k.none_deep; none_large = k.none_large; all_settle = (u.0, (u.1, k.all_settle.1)) }

  abbrev Doomed : Search → Type 0
  Doomed s = Failed s ⊎ Among (Broken s) s.waiting

  halves_break : (s : Search) (x y z : Piece) (xs : List Piece) → examine c limit μ s.depth x ≡ split y z → Broken s x → Among (Broken s) (y ∷ z ∷ xs)
  halves_break s x y z xs e (here es f) = absurd (void (cc))
  halves_break s x y z xs e (first {y = u} f h) = let i : u ≡ y = cc in inl (subst (Broken s) i h)
  halves_break s x y z xs e (second {z = v} f h) = let j : v ≡ z = cc in inr (inl (subst (Broken s) j h))

  breaks_or_splits : (s : Search) (x : Piece) (o : Outcome) → examine c limit μ s.depth x ≡ o → ((es : List Half) → o ≡ broken es → ⊥) → ((y z : Piece) → o ≡ split y z → ⊥) → Broken s x → ⊥
  breaks_or_splits s x o e h k (here es f) = h es (sym e ∙ f)
  breaks_or_splits s x o e h k (first f u) = k _ _ (sym e ∙ f)
  breaks_or_splits s x o e h k (second f u) = k _ _ (sym e ∙ f)

  among_after : (s : Search) (x : Piece) (xs : List Piece) (o : Outcome) → examine c limit μ s.depth x ≡ o → Among (Broken s) (x ∷ xs) → Doomed (after c s x xs o)
  among_after s x xs settled e (inl h) = absurd (breaks_or_splits s x settled e (λ es f. void (cc)) (λ y z f. void (cc)) h)
  among_after s x xs settled e (inr h) = inr h
  among_after s x xs (broken es) e h = inl (refl, (_, refl))
  among_after s x xs too_deep e (inl h) = absurd (breaks_or_splits s x too_deep e (λ es f. void (cc)) (λ y z f. void (cc)) h)
  among_after s x xs too_deep e (inr h) = inr h
  among_after s x xs too_large e (inl h) = absurd (breaks_or_splits s x too_large e (λ es f. void (cc)) (λ y z f. void (cc)) h)
  among_after s x xs too_large e (inr h) = inr h
  among_after s x xs (split y z) e (inl h) = inr (halves_break s x y z xs e h)
  among_after s x xs (split y z) e (inr h) = inr (inr (inr h))

  doomed_after : (s : Search) (x : Piece) (xs : List Piece) → Doomed (over s (x ∷ xs)) → (o : Outcome) → examine c limit μ s.depth x ≡ o → Doomed (after c s x xs o)
  doomed_after s x xs (inl h) o e = let f = h.0 in absurd (void (cc))
  doomed_after s x xs (inr h) o e = among_after s x xs o e h

  -- examining a box leaves the depth, so what is known of the whole at that depth is known afterwards
  keeps_clean : (s : Search) (x : Piece) (xs : List Piece) → (Settled s (whole c) → Clean (over s (x ∷ xs))) → (o : Outcome) → examine c limit μ s.depth x ≡ o →
      Settled (after c s x xs o) (whole c) → Clean (after c s x xs o)
  keeps_clean s x xs h o e z = clean_after s x xs (h (subst (λ n. Settles c limit μ n (whole c)) (same_depth c s x xs o) z)) o e

  keeps_doomed : (s : Search) (x : Piece) (xs : List Piece) → (Broken s (whole c) → Doomed (over s (x ∷ xs))) → (o : Outcome) → examine c limit μ s.depth x ≡ o →
      Broken (after c s x xs o) (whole c) → Doomed (after c s x xs o)
  keeps_doomed s x xs h o e z = doomed_after s x xs (h (subst (λ n. Breaks c limit μ n (whole c)) (same_depth c s x xs o) z)) o e

  -- ---- words
  clearing_holds : (s : Search) → word s ≡ Holds → Clearing s → Settled s (whole c)
  clearing_holds s e h =
      let w = holds_clears s.waiting s.corner (s.aside_depth + s.aside_range) e in
      surely w.1 (h (omega (arith, w.2)) (omega (arith, w.2)) (subst (AllByRecursion (Settled s)) (sym w.0) tt))
    where
      surely : s.corner ≡ None → Settled s (whole c) ⊎ Failed s → Settled s (whole c)
      surely f (inl k) = k
      surely f (inr k) = let g = k.1.1 in absurd (void (cc))

  breaking_fails : (s : Search) → word s ≡ Fails → Breaking s → Broken s (whole c)
  breaking_fails s e h = let w = fails_points s.waiting s.corner (s.aside_depth + s.aside_range) e in h.0 w.0 w.2

  clean_word : (s : Search) → Finished (word s) → Clean s → word s ≡ Holds
  clean_word s f h =
      let w = finished_waits_not s.waiting s.corner (s.aside_depth + s.aside_range) f in
      let n : s.aside_depth + s.aside_range ≡ 0 = omega (arith, h.none_deep, h.none_large) in
      ap (λ xs. word_of xs s.corner (s.aside_depth + s.aside_range)) w
      ∙ ap (λ o. word_of [] o (s.aside_depth + s.aside_range)) h.uncornered
      ∙ ap (word_of [] None) n

  none_among : (s : Search) (xs : List Piece) → Among (Broken s) xs → xs ≡ [] → ⊥
  none_among s [] h e = h
  none_among s (x ∷ xs) h e = void (cc)

  doomed_word : (s : Search) → Finished (word s) → Doomed s → word s ≡ Fails
  doomed_word s f (inl h) =
      ap (λ xs. word_of xs s.corner (s.aside_depth + s.aside_range)) h.0 ∙ ap (λ o. word_of [] o (s.aside_depth + s.aside_range)) h.1.1
  doomed_word s f (inr h) = absurd (none_among s s.waiting h (finished_waits_not s.waiting s.corner (s.aside_depth + s.aside_range) f))

-- ---- any calls
module _ (c : Content) (μ : Meaning) (r : Course) where
  pub holds_settles : word (reached c μ r) ≡ Holds → Settles c r.limit μ (reached c μ r).depth (whole c)
  holds_settles e = clearing_holds c r.limit μ (reached c μ r) e (keep c μ (Clearing c r.limit μ) r (keeps_clearing c r.limit μ) (λ d p q all. inl all.0))

  fails_breaks : word (reached c μ r) ≡ Fails → Breaks c r.limit μ (reached c μ r).depth (whole c)
  fails_breaks e = breaking_fails c r.limit μ (reached c μ r) e (keep c μ (Breaking c r.limit μ) r (keeps_breaking c r.limit μ) (λ d. (λ p f. absurd (void (cc)), only d)))
    where
      only : (d : ℕ) → Among (Breaks c r.limit μ d) (whole c ∷ []) → Breaks c r.limit μ d (whole c)
      only d (inl h) = h
      only d (inr h) = absurd h

  settles_holds : Finished (word (reached c μ r)) → Settles c r.limit μ (reached c μ r).depth (whole c) → word (reached c μ r) ≡ Holds
  settles_holds f h =
      clean_word c r.limit μ (reached c μ r) f
      (keep c μ (λ s. Settled c r.limit μ s (whole c) → Clean c r.limit μ s) r (keeps_clean c r.limit μ) (λ d z. record { uncornered = refl; none_deep = refl; none_large = refl; all_settle = (z, tt) }) h)

  breaks_fails : Finished (word (reached c μ r)) → Breaks c r.limit μ (reached c μ r).depth (whole c) → word (reached c μ r) ≡ Fails
  breaks_fails f h =
      doomed_word c r.limit μ (reached c μ r) f
      (keep c μ (λ s. Broken c r.limit μ s (whole c) → Doomed c r.limit μ s) r (keeps_doomed c r.limit μ) (λ d z. inr (inl z)) h)

module _ (c : Content) (μ : Meaning) (r r' : Course) (deep : (reached c μ r).depth ≤ (reached c μ r').depth) (wide : r.limit ≤ r'.limit) (ended : Finished (word (reached c μ r'))) where
  whole_within : level (whole c).box ≤ (reached c μ r).depth
  whole_within = omega (arith, ap level (whole_has_box c), whole_level c.axes)

  pub same_word : Decided (word (reached c μ r)) → word (reached c μ r') ≡ word (reached c μ r)
  same_word (inl e) =
      settles_holds c μ r' ended
      (settles_further c μ r.limit r'.limit (reached c μ r).depth (reached c μ r').depth wide deep (whole c) whole_within (holds_settles c μ r e))
      ∙ sym e
  same_word (inr e) =
      breaks_fails c μ r' ended
      (breaks_further c μ r.limit r'.limit (reached c μ r).depth (reached c μ r').depth wide deep (whole c) whole_within (fails_breaks c μ r e))
      ∙ sym e
