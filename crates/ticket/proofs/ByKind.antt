-- A record by its kind, as the code takes it apart.
use Rattle.std.proofs.Common.{◌≡◌, ℕ, ◌-◌, ◌<◌, ◌≤◌, Bool, true, false, not, List, ◌∷◌, length, get_or, take, drop, Result, sym, ap, ◌∙◌, arith}
use Rattle.std.proofs.Math.Seq.{drop-cons}
use Rattle.std.proofs.lemmas.List.{take_rest, drop_all}
use Rattle.std.proofs.lemmas.Bool.Decides.{nat_tests}
use Rattle.ticket.specs.Reading.{by_kind, four, axis_of, question_of}
use Rattle.ticket.specs.declared.fault.Fault.{Fault}
use Rattle.ticket.specs.declared.records.Axis.{Axis}
use Rattle.ticket.specs.declared.records.Question.{Question}

module _ {X : Type 0} (axis term question other : X) where
  pub is_axis : {k : ℕ} {z : X} → k ≡ 1 → z ≡ axis → z ≡ by_kind k axis term question other
  is_axis e h = h ∙ ap (λ j. by_kind j axis term question other) (sym e)

  pub is_term : {k : ℕ} {z : X} → k ≡ 2 → z ≡ term → z ≡ by_kind k axis term question other
  is_term e h = h ∙ ap (λ j. by_kind j axis term question other) (sym e)

  pub is_question : {k : ℕ} {z : X} → k ≡ 3 → z ≡ question → z ≡ by_kind k axis term question other
  is_question e h = h ∙ ap (λ j. by_kind j axis term question other) (sym e)

  pub is_other : (k : ℕ) → (k ≡ 1 → ⊥) → (k ≡ 2 → ⊥) → (k ≡ 3 → ⊥) → other ≡ by_kind k axis term question other
  is_other k a b c = grind (arith, nat_tests)

-- the last four bytes of a record, named one by one, are what is left behind the first twelve
last_four : (b : List ℕ) → length b ≡ 16 → four b 12 ≡ drop 12 b
last_four b e =
    let l12 : 12 < length b = omega arith in
    let l13 : 13 < length b = omega arith in
    let l14 : 14 < length b = omega arith in
    let l15 : 15 < length b = omega arith in
    let l16 : length b ≤ 16 = omega arith in
    sym (drop-cons b 12 0 l12
    ∙ ap (λ l. get_or b 12 0 ∷ l) (drop-cons b 13 0 l13
    ∙ ap (λ l. get_or b 13 0 ∷ l) (drop-cons b 14 0 l14
    ∙ ap (λ l. get_or b 14 0 ∷ l) (drop-cons b 15 0 l15
    ∙ ap (λ l. get_or b 15 0 ∷ l) (drop_all 16 b l16)))))

pub axis_rest : (b : List ℕ) (n d e : ℕ) (l h : List ℕ) {z : Result Axis Fault} → length b ≡ 16 → z ≡ axis_of n d e l h (four b 12) → z ≡ axis_of n d e l h (drop 12 b)
axis_rest b n d e l h long p = p ∙ ap (axis_of n d e l h) (last_four b long)

-- `rest @ ..` after k names is `take (length b - k) (drop k b)`
pub question_rest : (b : List ℕ) (k n x d : ℕ) {z : Result Question Fault} → z ≡ question_of n x d (take (length b - k) (drop k b)) → z ≡ question_of n x d (drop k b)
question_rest b k n x d p = p ∙ ap (question_of n x d) (take_rest b k)

-- what `is_none` says
pub none_told : (b r : Bool) → b ≡ not r → r ≡ not b
none_told b true e = ap not (sym e)
none_told b false e = ap not (sym e)
