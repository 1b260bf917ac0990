-- A text split at its first newline.
use Rattle.std.proofs.Common.{◌≡◌, ℕ, zero, suc, ◌+◌, ◌-◌, ◌<◌, ◌≤◌, eqb, List, [], ◌∷◌, ◌++◌, length, get_or, take, drop, position, Some, None, sym, refl, ap, ◌∙◌, append_assoc, add-one, arith}
use Rattle.std.specs.List.{flat_map, AllByRecursion, position_or_len}
use Rattle.std.proofs.lemmas.List.{take_rest}
use Rattle.std.proofs.lemmas.List.Quantifiers.{position-Some}
use Rattle.std.proofs.lemmas.List.Sums.{fails_before_first}
use Rattle.std.proofs.lemmas.Bool.{cond-true, cond-false, eq-eqb, eqb-true, eqb-false, ne_eqb}
use Rattle.std.proofs.lemmas.Bool.Decides.{nat_tests}
use Rattle.orders.specs.Lines.{longer, lines_of, NoNewline, ended, LinesAreReadBack}

-- no newline at any place below n
abbrev pub NoneBelow : ℕ → List ℕ → Type 0
NoneBelow n text = (k : ℕ) → k < n → get_or text k 0 ≡ 10 → ⊥

-- a byte that is no newline
goes_on : (c : ℕ) (cs : List ℕ) → (c ≡ 10 → ⊥) → lines_of (c ∷ cs) ≡ longer c (lines_of cs)
goes_on c cs h = cond-false (eqb c 10) _ _ (ne_eqb c 10 h)

-- up to the first newline, and on behind it
pub line_found : (text : List ℕ) (r : ℕ) → r < length text → get_or text r 0 ≡ 10 → NoneBelow r text → lines_of text ≡ take r text ∷ lines_of (drop (suc r) text)
line_found [] r h e b = absurd (omega arith)
line_found (c ∷ cs) zero h e b = cond-true (eqb c 10) _ _ (eq-eqb c 10 e)
line_found (c ∷ cs) (suc r) h e b = goes_on c cs (b zero (omega arith)) ∙ ap (longer c) (line_found cs r (omega arith) e (λ k l. b (suc k) (omega arith)))

-- ---- by what a line holds
first_ended : (line rest : List ℕ) → NoNewline line → lines_of (line ++ 10 ∷ rest) ≡ line ∷ lines_of rest
first_ended [] rest h = refl
first_ended (c ∷ cs) rest h = goes_on c (cs ++ 10 ∷ rest) h.0 ∙ ap (longer c) (first_ended cs rest h.1)

last_open : (c : ℕ) (cs : List ℕ) → NoNewline (c ∷ cs) → lines_of (c ∷ cs) ≡ (c ∷ cs) ∷ []
last_open c [] h = goes_on c [] h.0
last_open c (d ∷ ds) h = goes_on c (d ∷ ds) h.0 ∙ ap (longer c) (last_open d ds h.1)

no_newline : (text : List ℕ) → NoneBelow (length text) text → NoNewline text
no_newline [] b = tt
no_newline (c ∷ cs) b = (b zero (omega arith), no_newline cs (λ k l. b (suc k) (omega arith)))

-- ---- by where the first newline is
unended : (text : List ℕ) → None ≡ position (λ b. eqb b 10) text → NoneBelow (length text) text
unended text e k l h =
    let n : length text ≤ position_or_len (λ b. eqb b 10) text = grind (arith, nat_tests) in
    eqb-false _ 10 (fails_before_first (λ b. eqb b 10) text k 0 (omega arith)) h

-- the line in front of it, and what is behind it
pub line_and_rest : (text : List ℕ) (r : ℕ) → Some r ≡ position (λ b. eqb b 10) text → lines_of text ≡ take r text ∷ lines_of (take (length text - (r + 1)) (drop (r + 1) text))
line_and_rest text r e =
    let p = position-Some (λ b. eqb b 10) text r 0 (sym e) in
    line_found text r p.0 (eqb-true _ 10 p.1) (λ k l h. eqb-false _ 10 (p.2 k l) h)
    ∙ ap (λ (n : ℕ). take r text ∷ lines_of (drop n text)) (sym (add-one r))
    ∙ ap (λ (l : List ℕ). take r text ∷ lines_of l) (sym (take_rest text (r + 1)))

pub one_line : (text : List ℕ) → 0 < length text → None ≡ position (λ b. eqb b 10) text → lines_of text ≡ text ∷ []
one_line [] h e = absurd (omega arith)
one_line (c ∷ cs) h e = last_open c cs (no_newline (c ∷ cs) (unended (c ∷ cs) e))

-- ---- lines put together
all_ended : (lines : List (List ℕ)) → AllByRecursion NoNewline lines → lines_of (flat_map ended lines) ≡ lines
all_ended [] h = refl
all_ended (line ∷ lines) h =
    ap lines_of (append_assoc line (10 ∷ []) (flat_map ended lines))
    ∙ first_ended line (flat_map ended lines) h.0
    ∙ ap (λ (ls : List (List ℕ)). line ∷ ls) (all_ended lines h.1)

ended_then_open : (lines : List (List ℕ)) (c : ℕ) (cs : List ℕ) → AllByRecursion NoNewline lines → NoNewline (c ∷ cs) → lines_of (flat_map ended lines ++ c ∷ cs) ≡ lines ++ (c ∷ cs) ∷ []
ended_then_open [] c cs h o = last_open c cs o
ended_then_open (line ∷ lines) c cs h o =
    ap lines_of (append_assoc (ended line) (flat_map ended lines) (c ∷ cs) ∙ append_assoc line (10 ∷ []) (flat_map ended lines ++ c ∷ cs))
    ∙ first_ended line (flat_map ended lines ++ c ∷ cs) h.0
    ∙ ap (λ (ls : List (List ℕ)). line ∷ ls) (ended_then_open lines c cs h.1 o)

pub lines_are_read_back : LinesAreReadBack
lines_are_read_back = record { all_ended = all_ended; last_open = ended_then_open }
