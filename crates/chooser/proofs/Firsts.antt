-- The first best, as `min_by_key` over a range finds it.
use Rattle.std.proofs.Common.{◌≡◌, ℕ, zero, suc, ◌+◌, Bool, true, false, cond, ltb, List, [], ◌∷◌, Option, Some, None, MatchOption, unwrap_or, refl, sym, ap, subst, ◌∙◌, add-zero, ap₂, arith}
use Rattle.std.specs.Ordering.{is_gt, min_by_ordering, nat_cmp}
use Rattle.std.specs.declared.cmp.Ordering.{Ordering}
use Rattle.std.specs.declared.cmp.Ordering.TheVariants.{Less, Equal, Greater}
use Rattle.std.specs.Fn.{CalledAt}
use Rattle.std.specs.Iterator.Runs.{Run, WholeRun}
use Rattle.std.specs.Iterator.{KeyTurn, PicksMinByKey, Drains}
use Rattle.std.specs.List.{FoldsTo, range_with_len}
use Rattle.std.proofs.lemmas.Iterator.{YieldsList, YieldsList-from_range, items_from_drains}
use Rattle.std.proofs.iter.Yields.{nat_range_steps}
use Rattle.std.proofs.lemmas.Bool.Decides.{nat_tests}
use Rattle.std.proofs.lemmas.List.{map-id}
use denote.Param.Members.{Mut}
use denote.Ref.{Bor}
use Rattle.chooser.specs.Best.{first_best}
use Rattle.chooser.specs.Bests.{best_next}

-- the best of two by the order of their keys, and its key
picked : {K : Type 0} (h : ℕ → K) (o : Ordering) (b x : ℕ) → min_by_ordering o (h b) (h x) ≡ h (min_by_ordering o b x)
picked h Less b x = refl
picked h Equal b x = refl
picked h Greater b x = refl

picked_is : (o : Ordering) (b x : ℕ) → min_by_ordering o b x ≡ cond (is_gt o) x b
picked_is Less b x = refl
picked_is Equal b x = refl
picked_is Greater b x = refl

alike : (t : Bool) → ◌≡◌ {A = ℕ} (cond t 0 0) 0
alike true = refl
alike false = refl

module _ {F K : Type 0} (g : Mut F (Bor ℕ × Unit {0}) K) (cmp : K → K → Ordering) (f : F) (h : ℕ → K) (acts : (x : ℕ) (k : K) (q : F) → CalledAt g f x k q → (q ≡ f) × (k ≡ h x))
    (beats : ℕ → ℕ → Bool) (agree : (i j : ℕ) → is_gt (cmp (h j) (h i)) ≡ beats i j) where
  -- b is the best of the first m, and the turns are those from m on
  turns : (xs : List ℕ) (m n b y : ℕ) (k : K) (e : F) (q : F × K) → e ≡ f → k ≡ h b → b ≡ first_best beats m → xs ≡ range_with_len m n
      → FoldsTo {P = (F × K) × ℕ} (KeyTurn min_by_ordering min_by_ordering g cmp) ((e, k), b) xs (q, y) → y ≡ first_best beats (m + n)
  turns [] m zero b y k e q s c a r t = ap (λ (j : (F × K) × ℕ). j.1) (sym t) ∙ a ∙ ap (first_best beats) (sym (add-zero m))
  turns [] m (suc n) b y k e q s c a r t = cc
  turns (x ∷ xs) m zero b y k e q s c a r t = cc
  turns (x ∷ xs) m (suc n) b y k e q s c a r (j, (l, o, called, is, key, best), t) =
      let given = acts x l j.0.0 (subst (λ u. CalledAt g u x l j.0.0) s called) in
      let here : x ≡ m = cc in
      let rest : xs ≡ range_with_len (m + 1) n = cc in
      let won : is_gt o ≡ beats x b = ap is_gt (sym is) ∙ ap₂ (λ u v. is_gt (cmp u v)) c given.1 ∙ agree x b in
      turns xs (m + 1) n j.1 y j.0.1 j.0.0 q given.0
      (key ∙ ap₂ (min_by_ordering o) c given.1 ∙ picked h o b x ∙ ap h (sym best))
      (best ∙ picked_is o b x ∙ ap (λ u. cond u x b) won ∙ ap (λ u. cond (beats u b) u b) here ∙ best_next beats m b a)
      rest t
      ∙ ap (first_best beats) (let d : m + 1 + n ≡ m + suc n = omega arith in d)

  module _ {S : Type 0} {steps : S → Option ℕ → S → Type 0} (s : S) where
    items : (n : ℕ) (xs : List ℕ) → YieldsList steps (λ x. x) s (range_with_len 0 n) → Drains steps s xs → xs ≡ range_with_len 0 n
    items n xs e d = sym (map-id xs) ∙ items_from_drains xs (d.1.0, d.1.1, λ _. (d.0, d.1.2)) e

    first_of_all : (n : ℕ) (r : Option ℕ) → PicksMinByKey steps g cmp s f r → YieldsList steps (λ x. x) s (range_with_len 0 n) → MatchOption r (n ≡ 0) (λ b. b ≡ first_best beats n)
    first_of_all zero None d e = refl
    first_of_all (suc n) None d e = let z = items (suc n) [] e d in cc
    first_of_all zero (Some y) (x, xs, k, l, q, d, called, t) e = let z = items zero (x ∷ xs) e d in cc
    first_of_all (suc n) (Some y) (x, xs, k, l, q, d, called, t) e =
        let given = acts x k l called in
        let z = items (suc n) (x ∷ xs) e d in
        let first : x ≡ 0 = cc in
        let rest : xs ≡ range_with_len 1 n = cc in
        turns xs 1 n x y k l q given.0 given.1 (first ∙ sym (alike (beats 0 0))) rest t ∙ ap (first_best beats) (let j : 1 + n ≡ suc n = omega arith in j)

-- where the axes come in order; the run of the call says by which steps they come
pub first_by_key : {F K S : Type 0} {steps : S → Option ℕ → S → Type 0} {s : S} {P : Run steps → Type 0} → WholeRun steps s P → (g : Mut F (Bor ℕ × Unit {0}) K) (cmp : K → K → Ordering) (f : F) (r : Option ℕ)
    → PicksMinByKey steps g cmp s f r → (h : ℕ → K) → ((x : ℕ) (k : K) (q : F) → CalledAt g f x k q → (q ≡ f) × (k ≡ h x)) → (beats : ℕ → ℕ → Bool) → ((i j : ℕ) → is_gt (cmp (h j) (h i)) ≡ beats i j)
    → (n : ℕ) → YieldsList steps (λ x. x) s (range_with_len 0 n) → MatchOption r (n ≡ 0) (λ b. b ≡ first_best beats n)
first_by_key {s = s} run g cmp f r ran h acts beats agree n e = first_of_all g cmp f h acts beats agree s n r ran e

pub in_order : (n : ℕ) → YieldsList nat_range_steps (λ x. x) (record { start = 0; end = n }) (range_with_len 0 n)
in_order n = YieldsList-from_range 0 n n refl (omega arith)

-- by a number
pub is_gt-nat_cmp : (a b : ℕ) → is_gt (nat_cmp a b) ≡ ltb b a
is_gt-nat_cmp a b = grind (arith, nat_tests)

pub first_or_0 : (beats : ℕ → ℕ → Bool) (n : ℕ) (r : Option ℕ) → MatchOption r (n ≡ 0) (λ b. b ≡ first_best beats n) → unwrap_or r 0 ≡ first_best beats n
first_or_0 beats n None e = sym (ap (first_best beats) e)
first_or_0 beats n (Some b) e = e
