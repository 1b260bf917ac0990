-- The signs of a patch, counted by places and by indices.
use Rattle.std.proofs.Common.{◌≡◌, ℕ, suc, ◌+◌, ◌<◌, Bool, ◌&&◌, eqb, ltb, List, length, get_or, set, sym, ap, ◌∙◌, ap₂, zero-add}
use Rattle.std.proofs.lemmas.List.{set-get_or}
use Rattle.algebra.specs.Form.{Index}
use Rattle.algebra.specs.Layout.{numbers, place_of, index_of, stride, along}
use Rattle.algebra.specs.declared.sign.Sign.{Sign}
use Rattle.algebra.specs.declared.sign.Sign.TheVariants.{Zero}
use Rattle.algebra.proofs.Places.{index_is_index, place_of_index, along_is, neighbour}
use Rattle.chooser.specs.BySigns.{is_negative, differ, tally, negative_at, differ_at}
use Rattle.chooser.specs.Laws.{sign_at, changes_after, ChangesAreByIndex, NegativesAreByIndex}
use Rattle.chooser.proofs.Tallies.{tally_same}

module _ (ns : List ℕ) (signs : List Sign) (j i : ℕ) (h : j < length ns) (l : i < numbers ns) where
  index_there : Index ns (index_of ns i)
  index_there = index_is_index ns i l

  along_index : along ns j i ≡ get_or (index_of ns i) j 0
  along_index = ap (along ns j) (sym (place_of_index ns i l)) ∙ along_is ns (index_of ns i) j index_there h

  here : get_or signs i Zero ≡ sign_at ns signs (index_of ns i)
  here = ap (λ p. get_or signs p Zero) (sym (place_of_index ns i l))

  next_place : place_of ns (set (index_of ns i) j (suc (get_or (index_of ns i) j 0))) ≡ i + stride ns j
  next_place =
      let ks : List ℕ = index_of ns i in
      neighbour ns ks j index_there h (get_or ks j 0) ∙ ap (λ k. place_of ns k + stride ns j) (set-get_or ks j 0) ∙ ap (λ p. p + stride ns j) (place_of_index ns i l)

  change_is : (ltb (along ns j i) (get_or ns j 0) && differ_at signs (stride ns j) i) ≡ changes_after ns signs j (index_of ns i)
  change_is = ap₂ ◌&&◌ (ap (λ k. ltb k (get_or ns j 0)) along_index) (ap₂ differ here (ap (λ p. get_or signs p Zero) (sym next_place)))

  negative_is : (k : ℕ) → (eqb (along ns j i) k && negative_at signs i) ≡ (eqb (get_or (index_of ns i) j 0) k && is_negative (sign_at ns signs (index_of ns i)))
  negative_is k = ap₂ ◌&&◌ (ap (λ m. eqb m k) along_index) (ap is_negative here)

same_below : (p q : ℕ → Bool) (n : ℕ) → ((k : ℕ) → k < n → p k ≡ q k) → tally p 0 n ≡ tally q 0 n
same_below p q n h = tally_same p q 0 0 n (λ k l. ap p (zero-add k) ∙ h k l ∙ sym (ap q (zero-add k)))

pub changes_are_by_index : ChangesAreByIndex
changes_are_by_index ns signs j h e =
    let p : ℕ → Bool = λ i. ltb (along ns j i) (get_or ns j 0) && differ_at signs (stride ns j) i in
    ap (tally p 0) (sym e) ∙ same_below p (λ i. changes_after ns signs j (index_of ns i)) (numbers ns) (λ i l. change_is ns signs j i h l)

pub negatives_are_by_index : NegativesAreByIndex
negatives_are_by_index ns signs j k h e =
    let p : ℕ → Bool = λ i. eqb (along ns j i) k && negative_at signs i in
    ap (tally p 0) (sym e) ∙ same_below p (λ i. eqb (get_or (index_of ns i) j 0) k && is_negative (sign_at ns signs (index_of ns i))) (numbers ns) (λ i l. negative_is ns signs j i h l k)
