-- A search that keeps the best axis b so far and its value m; before the first axis the value is 0.
use Rattle.std.proofs.Common.{◌≡◌, ℕ, ◌+◌, ◌<◌, ◌≤◌, Bool, true, false, cond, ltb, ◌⊎◌, refl, sym, ap, subst, ◌∙◌, inl, inr, ⊎_elim, arith, lt-ltb, le-ltb}
use Rattle.std.specs.Prelude.{nat_lt}
use Rattle.chooser.specs.Best.{first_best}
use Rattle.chooser.specs.Bests.{best_next, best_takes, best_keeps}

abbrev pub Leads : (ℕ → ℕ) → ℕ → ℕ → ℕ → Type 0
Leads f n b m = (b ≡ first_best (λ i j. ltb (f j) (f i)) n) × ((m ≡ f b) ⊎ ((n ≡ 0) × (m ≡ 0)))

alike : {A : Type 0} (t : Bool) (x y : A) → y ≡ x → cond t x y ≡ x
alike true x y e = refl
alike false x y e = e

pub leads_none : (f : ℕ → ℕ) → Leads f 0 0 0
leads_none f = (refl, inr (refl, refl))

module _ (f : ℕ → ℕ) (n b m x : ℕ) (inv : Leads f n b m) (e : x ≡ f n) where
  -- the first axis leads whatever its value
  at_first : n ≡ 0 → (b ≡ n) × (n ≡ first_best (λ i j. ltb (f j) (f i)) (n + 1))
  at_first z =
      let s : b ≡ n = inv.0 ∙ ap (first_best (λ i j. ltb (f j) (f i))) z ∙ sym z in
      (s, sym (sym (best_next (λ i j. ltb (f j) (f i)) n b inv.0) ∙ alike (nat_lt (f b) (f n)) n b s))

  pub leads_takes : m < x → Leads f (n + 1) n x
  leads_takes l =
      ⊎_elim (λ (v : m ≡ f b). (best_takes (λ i j. ltb (f j) (f i)) n b inv.0 (lt-ltb (f b) (f n) (omega arith)), inl e)) (λ (v : (n ≡ 0) × (m ≡ 0)). ((at_first v.0).1, inl e)) inv.1

  pub leads_keeps : x ≤ m → Leads f (n + 1) b m
  leads_keeps l =
      ⊎_elim (λ (v : m ≡ f b). (best_keeps (λ i j. ltb (f j) (f i)) n b inv.0 (le-ltb (f b) (f n) (omega arith)), inl v))
      (λ (v : (n ≡ 0) × (m ≡ 0)). let s = at_first v.0 in (s.0 ∙ s.1, inl (let z : m ≡ x = omega arith in z ∙ e ∙ ap f (sym s.0)))) inv.1

pub leads_as : (f : ℕ → ℕ) (n b m b' m' : ℕ) → b' ≡ b → m' ≡ m → Leads f n b m → Leads f n b' m'
leads_as f n b m b' m' p q l = subst (λ k. Leads f n k m') (sym p) (subst (λ k. Leads f n b k) (sym q) l)
