-- The table of waiting boxes, its newest record first.
use Rattle.std.proofs.Common.{◌≡◌, ℕ, zero, suc, ◌+◌, ◌-◌, ◌<◌, ◌≤◌, Bool, true, false, eqb, List, [], ◌∷◌, length, get_or, set, Some, None, slice_get, sym, refl, ap, ◌∙◌, ap₂, add-one, arith}
use Rattle.std.proofs.lemmas.List.{get_or-set_same, get_or-set_other, get_or_default}
use Rattle.std.proofs.lemmas.Bool.{eqb-true}
use Rattle.algebra.specs.Form.{other}
use Rattle.algebra.specs.declared.half.Half.{Half}
use Rattle.ticket.specs.Sizes.{rest}
use Rattle.patch.specs.Box.{half_box}
use Rattle.search.proofs.Keeping.{void}
use Rattle.case.specs.Records.{blank}
use Rattle.case.specs.Held.{newest_first, newest_halved}
use Rattle.case.specs.declared.record.Record.{Record}

pub as_many_newest : (n : ℕ) (rs : List Record) → length (newest_first n rs) ≡ n
as_many_newest zero rs = refl
as_many_newest (suc n) rs = ap suc (as_many_newest n rs)

later_is_not_seen : (n k : ℕ) (rs : List Record) (r : Record) → n ≤ k → newest_first n (set rs k r) ≡ newest_first n rs
later_is_not_seen zero k rs r l = refl
later_is_not_seen (suc n) k rs r l = ap₂ ◌∷◌ (get_or-set_other rs k n r blank (λ e. let z : ⊥ = omega arith in z)) (later_is_not_seen n k rs r (omega arith))

pub one_more_is_newest : (n : ℕ) (rs : List Record) (r : Record) → n < length rs → newest_first (n + 1) (set rs n r) ≡ r ∷ newest_first n rs
one_more_is_newest n rs r l =
    ap (λ k. newest_first k (set rs n r)) (add-one n) ∙ ap₂ ◌∷◌ (get_or-set_same rs n r blank l) (later_is_not_seen n n rs r (omega arith))

pub top_halves : (n : ℕ) (rs : List Record) (d : Record) (h : Half) (j : ℕ) → 0 < n → n ≤ length rs →
    half_box h j (get_or rs (n - 1) d) ∷ newest_first n (set rs (n - 1) (half_box (other h) j (get_or rs (n - 1) d))) ≡ newest_halved h j (newest_first n rs)
top_halves zero rs d h j l k = absurd (omega arith)
top_halves (suc n) rs d h j l k =
    let z : suc n - 1 ≡ n = omega arith in
    let r : Record = get_or rs n d in
    ap (λ i. half_box h j (get_or rs i d) ∷ newest_first (suc n) (set rs i (half_box (other h) j (get_or rs i d)))) z
    ∙ ap (λ xs. half_box h j r ∷ xs) (ap (λ i. newest_first i (set rs n (half_box (other h) j r))) (sym (add-one n)) ∙ one_more_is_newest n rs (half_box (other h) j r) (omega arith))
    ∙ ap (λ x. half_box h j x ∷ half_box (other h) j x ∷ newest_first n rs) (get_or_default rs n d blank (omega arith))

pub waits_unless_empty : (n : ℕ) (empty : Bool) → empty ≡ eqb n 0 → empty ≡ false → 0 < n
waits_unless_empty zero empty e f = absurd (void (cc))
waits_unless_empty (suc n) empty e f = omega arith

-- a box is on top
pub newest_and_older : (rs : List Record) (r : Record) → slice_get rs 0 ≡ Some r → rs ≡ r ∷ rest rs
newest_and_older [] r e = absurd (void (cc))
newest_and_older (x ∷ rs) r e = let q : x ≡ r = cc in ap (λ y. y ∷ rs) q

pub none_on_top : (rs : List Record) → slice_get rs 0 ≡ None → length rs ≡ 0
none_on_top [] e = refl
none_on_top (r ∷ rs) e = absurd (void (cc))

pub none_if_empty : (n : ℕ) (empty : Bool) → empty ≡ eqb n 0 → empty ≡ true → n ≡ 0
none_if_empty n empty e t = eqb-true n 0 (sym e ∙ t)
