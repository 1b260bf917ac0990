-- What stands at each place of a workspace while a stretch of it is written.
use Rattle.std.proofs.Common.{◌≡◌, ℕ, ◌+◌, ◌-◌, ◌<◌, ◌≤◌, ◌≢◌, ◌⊎◌, List, ◌++◌, map, length, get_or, take, drop, set, sym, ap, ◌∙◌, subst, ⊎_elim, arith}
use borrow.Rule.Slice.PartMut.{put_mid}
use Rattle.std.proofs.lemmas.List.{map-append, map-set, get_or-map, get_or-set_same, get_or-set_other, get_or_append_left as get_or-append, get_or-append_right, get_or-take, get_or-drop, take-map, drop-map, length-map, length-take-le}
use Rattle.std.proofs.lemmas.Bool.Decides.{eqb_tells}
use Rattle.algebra.specs.Pair.{Pair, pairs}
use Rattle.patch.specs.Sweeps.{pair_at, Kept}

-- below i it is done, and from there on all is as before
abbrev pub Part : (ℕ → Pair) → (ℕ → Pair) → (ℕ → Pair) → ℕ → Type 0
Part now done before i = ((j : ℕ) → j < i → now j ≡ done j) × ((j : ℕ) → i ≤ j → now j ≡ before j)

or_equal : (j i : ℕ) → j < i + 1 → (j < i) ⊎ (j ≡ i)
or_equal j i h = grind (arith, eqb_tells j i)

module _ {K : Type 0} (f : K → Pair) where
  pub item : (xs : List K) (i : ℕ) (d : K) → i < length xs → pair_at (map f xs) i ≡ f (get_or xs i d)
  item xs i d l = get_or-map f xs i d pairs.nought l

  wrote : (xs : List K) (i : ℕ) (x : K) → i < length xs → pair_at (map f (set xs i x)) i ≡ f x
  wrote xs i x l =
      let k : i < length (map f xs) = rw (length-map xs f) l in
      ap (λ ys. pair_at ys i) (map-set f xs i x) ∙ get_or-set_same (map f xs) i (f x) pairs.nought k

  left : (xs : List K) (i j : ℕ) (x : K) → j ≢ i → pair_at (map f (set xs i x)) j ≡ pair_at (map f xs) j
  left xs i j x n = ap (λ ys. pair_at ys j) (map-set f xs i x) ∙ get_or-set_other (map f xs) i j (f x) pairs.nought n

  pub part_more : (done before : ℕ → Pair) (xs : List K) (i : ℕ) (x : K) → i < length xs → f x ≡ done i → Part (pair_at (map f xs)) done before i → Part (pair_at (map f (set xs i x))) done before (i + 1)
  part_more done before xs i x l e h = (
    λ j k.
        ⊎_elim
        (λ (k : j < i). left xs i j x (λ q. let z : ⊥ = omega arith in z) ∙ h.0 j k)
        (λ (q : j ≡ i). ap (λ j. pair_at (map f (set xs i x)) j) q ∙ wrote xs i x l ∙ e ∙ ap done (sym q))
        (or_equal j i k),
    λ j k. left xs i j x (λ q. let z : ⊥ = omega arith in z) ∙ h.1 j (omega arith),
  )

  -- ---- two lists side by side
  pub joined_low : (xs ys : List K) (i : ℕ) → i < length xs → pair_at (map f (xs ++ ys)) i ≡ pair_at (map f xs) i
  joined_low xs ys i l = ap (λ zs. pair_at zs i) (map-append f xs ys) ∙ get_or-append (map f xs) (map f ys) pairs.nought i (omega (arith, length-map xs f))

  pub joined_high : (xs ys : List K) (k i : ℕ) → length xs ≡ k → pair_at (map f (xs ++ ys)) (k + i) ≡ pair_at (map f ys) i
  joined_high xs ys k i e =
      let q : k + i - k ≡ i = omega arith in
      ap (λ zs. pair_at zs (k + i)) (map-append f xs ys) ∙ get_or-append_right (map f xs) (map f ys) k (k + i) pairs.nought (length-map xs f ∙ e) (omega arith) ∙ ap (pair_at (map f ys)) q

  -- ---- a part of a list, read and written
  front_at : (a : ℕ) (xs : List K) (i : ℕ) → i < a → pair_at (map f (take a xs)) i ≡ pair_at (map f xs) i
  front_at a xs i l = ap (λ zs. pair_at zs i) (sym (take-map f a xs)) ∙ get_or-take a (map f xs) i pairs.nought l

  back_at : (a : ℕ) (xs : List K) (i : ℕ) → pair_at (map f (drop a xs)) i ≡ pair_at (map f xs) (a + i)
  back_at a xs i = ap (λ zs. pair_at zs i) (sym (drop-map f a xs)) ∙ get_or-drop a (map f xs) i pairs.nought

  pub part_at : (a k : ℕ) (xs : List K) (i : ℕ) → i < k → pair_at (map f (take k (drop a xs))) i ≡ pair_at (map f xs) (a + i)
  part_at a k xs i l = front_at k (drop a xs) i l ∙ back_at a xs i

  module _ (a k : ℕ) (xs ys : List K) (len : length ys ≡ k) (fits : a + k ≤ length xs) where
    front : length (take a xs) ≡ a
    front = length-take-le a xs (omega arith)

    pub put_at : (i : ℕ) → i < k → pair_at (map f (put_mid a k xs ys)) (a + i) ≡ pair_at (map f ys) i
    put_at i l = joined_high (take a xs) (ys ++ drop k (drop a xs)) a i front ∙ joined_low ys (drop k (drop a xs)) i (omega arith)

    pub put_kept : Kept a (a + k) (pair_at (map f (put_mid a k xs ys))) (pair_at (map f xs))
    put_kept = (
      λ p l. joined_low (take a xs) (ys ++ drop k (drop a xs)) p (omega (arith, front)) ∙ front_at a xs p l,
      λ p l.
          let q : a + (k + (p - (a + k))) ≡ p = omega arith in
          subst (λ p. pair_at (map f (put_mid a k xs ys)) p ≡ pair_at (map f xs) p) q
          (joined_high (take a xs) (ys ++ drop k (drop a xs)) a (k + (p - (a + k))) front ∙ joined_high ys (drop k (drop a xs)) k (p - (a + k)) len ∙ back_at k (drop a xs) (p - (a + k)) ∙ back_at a xs (k + (p - (a + k)))),
    )
