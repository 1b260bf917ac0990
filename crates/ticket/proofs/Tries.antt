-- A chain that checks things in turn: it stops at the first that fails.
use Rattle.std.proofs.Common.{◌≡◌, ℕ, ◌+◌, Bool, List, [], ◌∷◌, ◌++◌, map, length, take, drop, IsErr, IsErrAnd, Some, None, Ok, Err, Option, Result, sym, refl, ap, ◌∙◌, subst, append-nil, arith}
use denote.Param.Members.{Mut, Called}
use Rattle.std.specs.Iterator.{YieldsThen}
use Rattle.std.specs.List.{FoldsTo, enumerate_from}
use Rattle.std.specs.Option.{MatchOption}
use Rattle.std.proofs.lemmas.Iterator.{YieldsList}
use Rattle.std.proofs.lemmas.Iterator.Consumers.{YieldsList-so_far, YieldsList-turn, YieldsList-end}
use Rattle.std.proofs.lemmas.List.{take-append-drop, drop_more}
use Rattle.std.proofs.lemmas.Result.{err_from_is_err_and}
use Rattle.ticket.specs.Faults.{next, checked, each_checked}
use Rattle.ticket.specs.declared.fault.Fault.{Fault}
use Rattle.ticket.proofs.Chains.{stops}

abbrev pub Checked : Type 0
Checked = Result (Unit {0}) Fault

-- a call that passed, and one that did not, so that r is its fault
abbrev pub Passes : {F A : Type 0} → Mut F (A × Unit {0}) Checked → F → A → F → Type 0
Passes g = λ p x q. (w : Checked) × Called g p (x, tt) w q × (w ≡ Ok tt)

abbrev pub Fails : {F A E : Type 0} → Mut F (A × Unit {0}) Checked → (E → Fault) → F → Checked → A → Type 0
Fails {F} {A} {E} g out q r = λ x. (w : Checked) × (h : F) × (e : E) × Called g q (x, tt) w h × (w ≡ Err (out e)) × (IsErr r × IsErrAnd r (λ y. y ≡ out e))

module _ {Y : Type 0} (test : Y → Bool) (fault_of : Y → Fault) where
  abbrev pub all_checked : List Y → Checked
  all_checked [] = Ok tt
  all_checked (y ∷ ys) = next (checked (test y) (fault_of y)) (λ _. all_checked ys)

  module _ {A F : Type 0} (v : A → Y) (g : Mut F (A × Unit {0}) Checked) (f : F)
      (computes : (x : A) (w : Checked) (q : F) → Called g f (x, tt) w q → (q ≡ f) × (w ≡ checked (test (v x)) (fault_of (v x)))) where
    -- the calls that went on passed
    gone : (xs : List A) (p q : F) → p ≡ f → FoldsTo (Passes g) p xs q → (q ≡ f) × ((rest : List Y) → all_checked (map v xs ++ rest) ≡ all_checked rest)
    gone [] p q a c = (sym c ∙ a, λ rest. refl)
    gone (x ∷ xs) p q a c =
        let m = computes x c.1.0 c.0 (subst (λ w. Called g w (x, tt) c.1.0 c.0) a c.1.1) in
        let later = gone xs c.0 q m.0 c.2 in
        (later.0, λ rest. ap (λ z. next z (λ _. all_checked (map v xs ++ rest))) (sym m.1 ∙ c.1.2) ∙ later.1 rest)

    ended : {S E : Type 0} {steps : S → Option A → S → Type 0} {s : S} {ys : List Y} (out : E → Fault) (r : Checked) (u : S) → YieldsList steps v s ys
        → (xs : List A) (o : Option A) (q : F) → YieldsThen steps s xs o u → FoldsTo (Passes g) f xs q → MatchOption o (r ≡ Ok tt) (Fails g out q r) → r ≡ all_checked ys
    ended out r u road xs None q y c h =
        let e = YieldsList-end road xs y.0 y.1 None u refl y.2 in
        h ∙ sym ((gone xs f q refl c).1 []) ∙ ap all_checked (append-nil (map v xs) ∙ e.0)
    ended {ys = ys} out r u road xs (Some x) q y c h =
        let n = length xs in
        let turn = YieldsList-turn road xs y.0 y.1 (Some x) u x refl y.2 in
        let before = YieldsList-so_far road xs y.0 y.1 in
        let went = gone xs f q refl c in
        let m = computes x h.0 h.1 (subst (λ p. Called g p (x, tt) h.0 h.1) went.0 h.3) in
        let fails = err_from_is_err_and r h.5.1 in
        let all : map v xs ++ (v x ∷ drop (n + 1) ys) ≡ ys =
        (λ i. before i ++ (turn.1 i ∷ drop (n + 1) ys)) ∙ ap (λ l. take n ys ++ l) (sym (drop_more ys n (v x) turn.0)) ∙ take-append-drop n ys in
        fails.1 ∙ ap Err fails.2
        ∙ stops (λ _. all_checked (drop (n + 1) ys)) (sym h.4 ∙ m.1)
        ∙ sym (went.1 (v x ∷ drop (n + 1) ys))
        ∙ ap all_checked all

-- what `try_for_each` gives, where each call answers whether its item passes
pub tried : {Y S A F E : Type 0} {steps : S → Option A → S → Type 0} {v : A → Y} {s : S} {ys : List Y} (test : Y → Bool) (fault_of : Y → Fault)
    (g : Mut F (A × Unit {0}) Checked) (out : E → Fault) (f : F) (r : Checked) (u : S)
    → ((xs : List A) × (o : Option A) × (q : F) × YieldsThen steps s xs o u × FoldsTo (Passes g) f xs q × MatchOption o (r ≡ Ok tt) (Fails g out q r))
    → YieldsList steps v s ys
    → ((x : A) (w : Checked) (q : F) → Called g f (x, tt) w q → (q ≡ f) × (w ≡ checked (test (v x)) (fault_of (v x))))
    → r ≡ all_checked test fault_of ys
tried {v = v} test fault_of g out f r u d road computes = ended test fault_of v g f computes out r u road d.0 d.1 d.2 d.3 d.4 d.5

-- the same of numbered things, of which the first has the number b
numbered_from : {X : Type 0} (test : ℕ → X → Bool) (fault_at : ℕ → Fault) (b j : ℕ) (xs : List X) → all_checked (λ p. test (b + p.0) p.1) (λ p. fault_at (b + p.0)) (enumerate_from j xs) ≡ each_checked test fault_at (b + j) xs
unfolding each_checked
numbered_from test fault_at b j [] = refl
numbered_from test fault_at b j (x ∷ xs) =
    let e : b + (j + 1) ≡ b + j + 1 = omega arith in
    ap (λ t. next (checked (test (b + j) x) (fault_at (b + j))) (λ _. t)) (numbered_from test fault_at b (j + 1) xs ∙ ap (λ k. each_checked test fault_at k xs) e)

pub numbered : {X : Type 0} (test : ℕ → X → Bool) (fault_at : ℕ → Fault) (b : ℕ) (xs : List X) → all_checked (λ p. test (b + p.0) p.1) (λ p. fault_at (b + p.0)) (enumerate_from 0 xs) ≡ each_checked test fault_at b xs
numbered test fault_at b xs = let e : b + 0 ≡ b = omega arith in numbered_from test fault_at b 0 xs ∙ ap (λ k. each_checked test fault_at k xs) e
