-- A list of texts: that of the first element, which leads, and those of the others behind it.
use Rattle.std.proofs.Common.{◌≡◌, ℕ, suc, ◌+◌, ◌≤◌, Bool, true, false, eqb, List, [], ◌∷◌, ◌++◌, take, length, sym, refl, ap, ◌∙◌, add-one, arith}
use Rattle.std.specs.List.{flat_map}
use Rattle.std.proofs.lemmas.Bool.{ne_eqb}
use Rattle.std.proofs.lemmas.List.{take_all}
use Rattle.page.specs.Text.{numbered}

module _ {X : Type 0} (text : Bool → X → List ℕ) where
  later : (n : ℕ) (xs : List X) → numbered (λ k x. text (eqb k 0) x) (suc n) xs ≡ flat_map (text false) xs
  later n [] = refl
  later n (x ∷ xs) =
      let no : eqb (suc n) 0 ≡ false = ne_eqb (suc n) 0 (λ e. omega arith) in
      ap (λ (b : Bool). text b x ++ numbered (λ k x. text (eqb k 0) x) (suc n + 1) xs) no
      ∙ ap (λ (l : List ℕ). text false x ++ l) (ap (λ (k : ℕ). numbered (λ k x. text (eqb k 0) x) k xs) (add-one (suc n)) ∙ later (suc n) xs)

  pub listed : (xs rest : List X) (x : X) (i : ℕ) → xs ≡ x ∷ rest → length rest ≤ i → text true x ++ flat_map (text false) (take i rest) ≡ numbered (λ k x. text (eqb k 0) x) 0 xs
  listed xs rest x i e h =
      ap (λ (l : List X). text true x ++ flat_map (text false) l) (take_all i rest h)
      ∙ ap (λ (l : List ℕ). text true x ++ l) (sym (later 0 rest))
      ∙ ap (numbered (λ k x. text (eqb k 0) x) 0) (sym e)
