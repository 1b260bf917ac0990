-- Exactly the lines that ask for a call are read as it.
use Rattle.std.proofs.Common.{◌≡◌, ℕ, suc, ◌+◌, ◌-◌, ◌*◌, ◌≤◌, Bool, true, false, cond, ◌&&◌, eqb, leb, ◌⊎◌, List, [], ◌∷◌, length, get_or, drop, Some, None, Option, sym, refl, ap, ◌∙◌, subst, inl, inr, ⊎_elim, arith}
use Rattle.std.specs.Option.{option_map}
use Rattle.std.specs.Str.Parse.{digits_value_after}
use Rattle.std.specs.Char.{is_ascii_digit, digit_value}
use Rattle.std.specs.Str.{all_ascii_digits}
use Rattle.std.proofs.lemmas.List.{nil_from_length}
use Rattle.std.proofs.lemmas.Bool.{cases_Bool, cond-true, cond-false, and_from, and_parts, eqb-true, leb-true}
use Rattle.std.proofs.lemmas.Bool.Decides.{nat_tests}
use Rattle.search.specs.declared.call.Call.{Call}
use Rattle.search.specs.declared.call.Call.TheVariants.{Run, Deepen, Verdict, Point}
use Rattle.orders.specs.Orders.{digits_value, small, number_of, alone, by_letter, call_of, Numbered, Asks, OrdersAreExact}

-- ---- by the definitions
small_is : (n : ℕ) → n ≤ 65535 → Some n ≡ small (Some n)
small_is n h = grind (arith, nat_tests)

letter : {X : Type 0} {c : ℕ} (k : ℕ) (r d v p z : X) → c ≡ k → by_letter k r d v p z ≡ by_letter c r d v p z
letter k r d v p z e = ap (λ x. by_letter x r d v p z) (sym e)

-- ---- answers that are there
nothing : {X : Type 0} (x : X) → None ≡ Some x → ⊥
nothing x e = let z : ◌≡◌ {A = ℕ} 0 1 = cc in omega arith

same : {X : Type 0} (x y : X) → Some x ≡ Some y → x ≡ y
same x y e = cc

guarded : {X : Type 0} (t : Bool) (o : Option X) (x : X) → cond t o None ≡ Some x → (t ≡ true) × (o ≡ Some x)
guarded true o x e = (refl, e)
guarded false o x e = absurd (nothing x e)

small_only : (o : Option ℕ) (n : ℕ) → small o ≡ Some n → (o ≡ Some n) × (n ≤ 65535)
small_only None n e = absurd (nothing n e)
small_only (Some m) n e =
    let g = guarded (leb m 65535) (Some m) n e in
    let s : m ≡ n = same m n g.1 in
    (g.1, omega (arith, leb-true m 65535 g.0))

mapped_only : (f : ℕ → Call) (o : Option ℕ) (c : Call) → option_map f o ≡ Some c → (n : ℕ) × ((o ≡ Some n) × (f n ≡ c))
mapped_only f None c e = absurd (nothing c e)
mapped_only f (Some n) c e = (n, (refl, same (f n) c e))

-- ---- digits
digit_is : (c : ℕ) → is_ascii_digit c ≡ true → digit_value c ≡ c - 48
digit_is c h = grind (arith, nat_tests)

figures_only : (v n : ℕ) (ds : List ℕ) → digits_value v ds ≡ Some n → (all_ascii_digits ds ≡ true) × (digits_value_after 10 v ds ≡ n)
figures_only v n [] e = (refl, same v n e)
figures_only v n (d ∷ ds) e =
    let g = guarded (is_ascii_digit d) (digits_value (v * 10 + (d - 48)) ds) n e in
    let f = figures_only (v * 10 + (d - 48)) n ds g.1 in
    (and_from (is_ascii_digit d) (all_ascii_digits ds) g.0 f.0, ap (λ (x : ℕ). digits_value_after 10 (v * 10 + x) ds) (digit_is d g.0) ∙ f.1)

figures_all : (v n : ℕ) (ds : List ℕ) → all_ascii_digits ds ≡ true → digits_value_after 10 v ds ≡ n → digits_value v ds ≡ Some n
figures_all v n [] h e = ap Some e
figures_all v n (d ∷ ds) h e =
    let p = and_parts (is_ascii_digit d) (all_ascii_digits ds) h in
    cond-true (is_ascii_digit d) _ _ p.0
    ∙ figures_all (v * 10 + (d - 48)) n ds p.1 (ap (λ (x : ℕ). digits_value_after 10 (v * 10 + x) ds) (sym (digit_is d p.0)) ∙ e)

-- ---- numbers
number_only : (k n : ℕ) (bytes : List ℕ) → number_of bytes ≡ Some n → Numbered k (k ∷ bytes) n
number_only k n [] e = absurd (nothing n e)
number_only k n (b ∷ bs) e =
    let g = guarded (eqb b 32 && (leb 2 (suc (length bs)) && leb (suc (length bs)) 6)) (small (digits_value 0 bs)) n e in
    let p = and_parts (eqb b 32) (leb 2 (suc (length bs)) && leb (suc (length bs)) 6) g.0 in
    let q = and_parts (leb 2 (suc (length bs))) (leb (suc (length bs)) 6) p.1 in
    let s = small_only (digits_value 0 bs) n g.1 in
    let f = figures_only 0 n bs s.0 in
    record {
      figures = bs;
      line_is = ap (λ (x : ℕ). k ∷ x ∷ bs) (eqb-true b 32 p.0);
      are_digits = f.0;
      some = omega (arith, leb-true 2 (suc (length bs)) q.0);
      few = omega (arith, leb-true (suc (length bs)) 6 q.1);
      value_is = f.1;
      limit = s.1;
    }

spaced_number : (figures : List ℕ) → 1 ≤ length figures → length figures ≤ 5 → number_of (32 ∷ figures) ≡ small (digits_value 0 figures)
spaced_number figures a b = grind (arith, nat_tests)

number_all : (k n : ℕ) (line : List ℕ) → Numbered k line n → number_of (drop 1 line) ≡ Some n
number_all k n line x =
    ap (λ (l : List ℕ). number_of (drop 1 l)) x.line_is
    ∙ spaced_number x.figures x.some x.few
    ∙ ap small (figures_all 0 n x.figures x.are_digits x.value_is)
    ∙ sym (small_is n x.limit)

-- ---- letters
letters : (b : ℕ) (r d v p : Option Call) (c : Call) → by_letter b r d v p None ≡ Some c → ((b ≡ 114) × (r ≡ Some c)) ⊎ (((b ≡ 100) × (d ≡ Some c)) ⊎ (((b ≡ 118) × (v ≡ Some c)) ⊎ ((b ≡ 112) × (p ≡ Some c))))
letters b r d v p c e =
    ⊎_elim (λ t. inl (eqb-true b 114 t, sym (cond-true (eqb b 114) _ _ t) ∙ e))
    (λ f. let e1 = sym (cond-false (eqb b 114) _ _ f) ∙ e in
    ⊎_elim (λ t. inr (inl (eqb-true b 100 t, sym (cond-true (eqb b 100) _ _ t) ∙ e1)))
    (λ f. let e2 = sym (cond-false (eqb b 100) _ _ f) ∙ e1 in
    ⊎_elim (λ t. inr (inr (inl (eqb-true b 118 t, sym (cond-true (eqb b 118) _ _ t) ∙ e2))))
    (λ f. let e3 = sym (cond-false (eqb b 118) _ _ f) ∙ e2 in
    let g = guarded (eqb b 112) p c e3 in
    inr (inr (inr (eqb-true b 112 g.0, g.1))))
    (cases_Bool (eqb b 118)))
    (cases_Bool (eqb b 100)))
    (cases_Bool (eqb b 114))

-- a number behind the letter k
asks_numbered : (k : ℕ) (f : ℕ → Call) → ((line : List ℕ) (n : ℕ) → Numbered k line n → Asks line (f n)) → (b : ℕ) (bs : List ℕ) (c : Call) → b ≡ k → option_map f (number_of bs) ≡ Some c → Asks (b ∷ bs) c
asks_numbered k f asks b bs c e h =
    let m = mapped_only f (number_of bs) c h in
    subst (λ (x : ℕ). Asks (x ∷ bs) c) (sym e) (subst (λ (x : Call). Asks (k ∷ bs) x) m.1.1 (asks (k ∷ bs) m.0 (number_only k m.0 bs m.1.0)))

-- nothing behind it
asks_alone : (k : ℕ) (a : Call) → Asks (k ∷ []) a → (b : ℕ) (bs : List ℕ) (c : Call) → b ≡ k → alone (b ∷ bs) a ≡ Some c → Asks (b ∷ bs) c
asks_alone k a asks b bs c e h =
    let g = guarded (eqb (suc (length bs)) 1) (Some a) c h in
    let z : length bs ≡ 0 = omega (arith, eqb-true (suc (length bs)) 1 g.0) in
    subst (λ (x : ℕ). Asks (x ∷ bs) c) (sym e)
    (subst (λ (l : List ℕ). Asks (k ∷ l) c) (sym (nil_from_length bs z)) (subst (λ (x : Call). Asks (k ∷ []) x) (same a c g.1) asks))

only : (line : List ℕ) (c : Call) → call_of line ≡ Some c → Asks line c
only [] c e = absurd (nothing c e)
only (b ∷ bs) c e =
    ⊎_elim (λ h. asks_numbered 114 Run (λ line n x. x) b bs c h.0 h.1)
    (⊎_elim (λ h. asks_numbered 100 Deepen (λ line n x. x) b bs c h.0 h.1)
    (⊎_elim (λ h. asks_alone 118 Verdict refl b bs c h.0 h.1) (λ h. asks_alone 112 Point refl b bs c h.0 h.1)))
    (letters b (option_map Run (number_of bs)) (option_map Deepen (number_of bs)) (alone (b ∷ bs) Verdict) (alone (b ∷ bs) Point) c e)

all : (line : List ℕ) (c : Call) → Asks line c → call_of line ≡ Some c
all line (Run n) x = sym (letter 114 _ _ _ _ _ (ap (λ (l : List ℕ). get_or l 0 0) x.line_is)) ∙ ap (option_map Run) (number_all 114 n line x)
all line (Deepen n) x = sym (letter 100 _ _ _ _ _ (ap (λ (l : List ℕ). get_or l 0 0) x.line_is)) ∙ ap (option_map Deepen) (number_all 100 n line x)
all line Verdict x = ap call_of x
all line Point x = ap call_of x

pub orders_are_exact : OrdersAreExact
orders_are_exact = record { only = only; all = all }
