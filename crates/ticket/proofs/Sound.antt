-- What is read is well formed, and its encoding are the bytes that were read.
use Rattle.std.proofs.Common.{◌≡◌, ℕ, zero, suc, ◌+◌, ◌-◌, ◌*◌, ◌/◌, ◌%◌, ◌<◌, ◌≤◌, Bool, true, false, cond, not, ◌&&◌, eqb, ltb, leb, ◌⊎◌, List, [], ◌∷◌, ◌++◌, length, get_or, take, drop, is_some, Some, None, Ok, Err, Option, Result, sym, refl, ap, ◌∙◌, subst, inl, inr, ⊎_elim, arith}
use lib.Bits.{bit_and}
use lib.Signed.{lt_z}
use Rattle.std.proofs.lemmas.List.{append-nil, append_assoc, length-take-le, length-drop, take-append-drop, get_or-take, get_or-drop, get_or_past, nil_from_length, length_push}
use Rattle.std.proofs.lemmas.Bool.{and_parts, eqb-true, ltb-true, le-leb, cases_lt}
use Rattle.ticket.specs.Encoding.{axis_bytes, term_bytes, question_bytes, axes_bytes, terms_bytes, encoded}
use Rattle.ticket.specs.Faults.{fault, checked, next, each_checked}
use Rattle.ticket.specs.Law.{Encodes}
use Rattle.ticket.specs.Numbers.{Bytes, is_degree, is_end, is_depth, whole, lower_flag, upper_flag, relation_number, relation_of}
use Rattle.ticket.specs.Reading.{zeros, exponents, axis_of, term_of, question_of, known, Seen, nothing, added, axis_in_turn, term_in_turn, question_in_turn, four, axis_record, term_record, question_record, record_of, records_of, ticket_of, finished, is_length, reading}
use Rattle.ticket.specs.WellFormed.{Content, degree_at, all, axis_formed, exponents_formed, term_formed, Formed}
use Rattle.ticket.specs.declared.fault.Fault.{Fault}
use Rattle.ticket.specs.declared.fault.Refusal.TheVariants.{Length, Turn, NotZero, Degree, End, Exponent, Relation as NoRelation, Depth}
use Rattle.ticket.specs.declared.records.Axis.{Axis}
use Rattle.ticket.specs.declared.records.Term.{Term}
use Rattle.ticket.specs.declared.records.Question.{Question}
use Rattle.ticket.specs.declared.records.Record.{Record}
use Rattle.ticket.specs.declared.records.Record.TheVariants.{Axis as IsAxis, Term as IsTerm, Question as IsQuestion}
use Rattle.ticket.proofs.Bytes.{flags_back, whole_fits, four_whole, relation_from}
use Rattle.ticket.proofs.Listed.{both, all_push, by_four, by_four_more}

-- ---- chains that went through
pub next_ok : {X Y : Type 0} (r : Result X Fault) (f : X → Result Y Fault) (y : Y) → next r f ≡ Ok y → (x : X) × (r ≡ Ok x) × (f x ≡ Ok y)
next_ok (Ok x) f y e = (x, refl, e)
next_ok (Err k) f y e = cc

pub checked_ok : (b : Bool) (f : Fault) (x : Unit {0}) → checked b f ≡ Ok x → b ≡ true
checked_ok true f x e = refl
checked_ok false f x e = cc

pub known_ok : {X : Type 0} (o : Option X) (f : Fault) (x : X) → known o f ≡ Ok x → o ≡ Some x
known_ok (Some y) f x e = cc
known_ok None f x e = cc

-- bytes that were found to be zero are zero
pub zeros_ok : (n b : ℕ) (xs : List ℕ) (x : Unit {0}) → zeros n b xs ≡ Ok x → (k : ℕ) → get_or xs k 0 ≡ 0
unfolding each_checked
zeros_ok n b [] x e k = refl
zeros_ok n b (y ∷ ys) x e zero = let p = next_ok (checked (eqb y 0) (fault NotZero n b)) _ x e in eqb-true _ _ (checked_ok (eqb y 0) (fault NotZero n b) p.0 p.1)
zeros_ok n b (y ∷ ys) x e (suc k) = let p = next_ok (checked (eqb y 0) (fault NotZero n b)) _ x e in zeros_ok n (b + 1) ys x p.2 k

pub exponents_ok : (axes : List Axis) (n j : ℕ) (es : List ℕ) (x : Unit {0}) → each_checked (λ b e. leb e (degree_at axes (b - 1))) (fault Exponent n) (j + 1) es ≡ Ok x → exponents_formed axes j es ≡ true
unfolding each_checked
exponents_ok axes n j [] x h = refl
exponents_ok axes n j (e ∷ es) x h =
    let p = next_ok (checked (leb e (degree_at axes (j + 1 - 1))) (fault Exponent n (j + 1))) _ x h in
    let i : j + 1 - 1 ≡ j = omega arith in
    both (ap (λ k. leb e (degree_at axes k)) (sym i) ∙ checked_ok (leb e (degree_at axes (j + 1 - 1))) (fault Exponent n (j + 1)) p.0 p.1) (exponents_ok axes n (j + 1) es x p.2)

-- ---- records
pub record AxisOk (d e : ℕ) (lower upper rest : List ℕ) (a : Axis) : Type 0 where
  pub formed : axis_formed a ≡ true
  pub blank : eqb (bit_and e 252) 0 ≡ true
  pub zero_rest : (k : ℕ) → get_or rest k 0 ≡ 0
  pub is : a ≡ record { degree = d; lower = whole lower; upper = whole upper; lower_open = lower_flag e; upper_open = upper_flag e }

pub axis_ok : (n d e : ℕ) (lower upper rest : List ℕ) (a : Axis) → axis_of n d e lower upper rest ≡ Ok a → AxisOk d e lower upper rest a
unfolding axis_of
axis_ok n d e lower upper rest a h =
    let p1 = next_ok (checked (eqb (bit_and e 252) 0) (fault NotZero n 3)) _ a h in
    let p2 = next_ok (zeros n 12 rest) _ a p1.2 in
    let p3 = next_ok (checked (is_degree d) (fault Degree n 2)) _ a p2.2 in
    let p4 = next_ok (checked (is_end (whole lower)) (fault End n 4)) _ a p3.2 in
    let p5 = next_ok (checked (is_end (whole upper)) (fault End n 8)) _ a p4.2 in
    let p6 = next_ok (checked (lt_z (whole lower) (whole upper)) (fault End n 8)) _ a p5.2 in
    let z : Axis = record { degree = d; lower = whole lower; upper = whole upper; lower_open = lower_flag e; upper_open = upper_flag e } in
    let same : z ≡ a = cc p6.2 in
    let f : axis_formed z ≡ true =
    both (checked_ok (is_degree d) (fault Degree n 2) p3.0 p3.1)
    (both (checked_ok (is_end (whole lower)) (fault End n 4) p4.0 p4.1)
    (both (checked_ok (is_end (whole upper)) (fault End n 8) p5.0 p5.1)
    (checked_ok (lt_z (whole lower) (whole upper)) (fault End n 8) p6.0 p6.1))) in
    record {
      formed = subst (λ x. axis_formed x ≡ true) same f;
      blank = checked_ok (eqb (bit_and e 252) 0) (fault NotZero n 3) p1.0 p1.1;
      zero_rest = zeros_ok n 12 rest p2.0 p2.1;
      is = sym same;
    }

pub record TermOk (axes : List Axis) (es blank coefficient drift : List ℕ) (t : Term) : Type 0 where
  pub exponents : exponents_formed axes 0 es ≡ true
  pub zero_blank : (k : ℕ) → get_or blank k 0 ≡ 0
  pub is : t ≡ record { exponents = es; coefficient = whole coefficient; drift = whole drift }

pub term_ok : (axes : List Axis) (n : ℕ) (es blank coefficient drift : List ℕ) (t : Term) → term_of axes n es blank coefficient drift ≡ Ok t → TermOk axes es blank coefficient drift t
unfolding term_of
term_ok axes n es blank coefficient drift t h =
    let p1 = next_ok (zeros n 5 blank) _ t h in
    let p2 = next_ok (exponents axes n es) _ t p1.2 in
    record { exponents = exponents_ok axes n 0 es p2.0 p2.1; zero_blank = zeros_ok n 5 blank p1.0 p1.1; is = cc p2.2 }

pub record QuestionOk (relation depth : ℕ) (rest : List ℕ) (q : Question) : Type 0 where
  pub depth_ok : is_depth depth ≡ true
  pub depth_is : q.depth ≡ depth
  pub relation_is : relation_number q.relation ≡ relation
  pub zero_rest : (k : ℕ) → get_or rest k 0 ≡ 0

pub question_ok : (n relation depth : ℕ) (rest : List ℕ) (q : Question) → question_of n relation depth rest ≡ Ok q → QuestionOk relation depth rest q
unfolding question_of
question_ok n relation depth rest q h =
    let p1 = next_ok (zeros n 3 rest) _ q h in
    let p2 = next_ok (known (relation_of relation) (fault NoRelation n 1)) _ q p1.2 in
    let p3 = next_ok (checked (is_depth depth) (fault Depth n 2)) _ q p2.2 in
    let w : Question = record { relation = p2.0; depth = depth } in
    let same : w ≡ q = cc p3.2 in
    let r = relation_from relation p2.0 (known_ok (relation_of relation) (fault NoRelation n 1) p2.0 p2.1) in
    record {
      depth_ok = checked_ok (is_depth depth) (fault Depth n 2) p3.0 p3.1;
      depth_is = ap (λ x. x.depth) (sym same);
      relation_is = ap (λ x. relation_number x.relation) (sym same) ∙ r;
      zero_rest = zeros_ok n 3 rest p1.0 p1.1;
    }

-- ---- a record that was read is the encoding of what it says
by_sixteen : (P : List ℕ → Type 0) → ((b0 b1 b2 b3 b4 b5 b6 b7 b8 b9 b10 b11 b12 b13 b14 b15 : ℕ) → P (b0 ∷ b1 ∷ b2 ∷ b3 ∷ b4 ∷ b5 ∷ b6 ∷ b7 ∷ b8 ∷ b9 ∷ b10 ∷ b11 ∷ b12 ∷ b13 ∷ b14 ∷ b15 ∷ [])) → (l : List ℕ) → length l ≡ 16 → P l
by_sixteen P f =
    by_four_more 12 P λ b0 b1 b2 b3.
    by_four_more 8 (λ l. P (b0 ∷ b1 ∷ b2 ∷ b3 ∷ l)) λ b4 b5 b6 b7.
    by_four_more 4 (λ l. P (b0 ∷ b1 ∷ b2 ∷ b3 ∷ b4 ∷ b5 ∷ b6 ∷ b7 ∷ l)) λ b8 b9 b10 b11.
    by_four (λ l. P (b0 ∷ b1 ∷ b2 ∷ b3 ∷ b4 ∷ b5 ∷ b6 ∷ b7 ∷ b8 ∷ b9 ∷ b10 ∷ b11 ∷ l)) (f b0 b1 b2 b3 b4 b5 b6 b7 b8 b9 b10 b11)

axis_back : (a : Axis) (b : List ℕ) → length b ≡ 16 → Bytes b → get_or b 0 0 ≡ 1 → AxisOk (get_or b 2 0) (get_or b 3 0) (four b 4) (four b 8) (drop 12 b) a → axis_bytes (get_or b 1 0) a ≡ b
axis_back a =
    by_sixteen (λ b. Bytes b → get_or b 0 0 ≡ 1 → AxisOk (get_or b 2 0) (get_or b 3 0) (four b 4) (four b 8) (drop 12 b) a → axis_bytes (get_or b 1 0) a ≡ b)
    λ b0 b1 b2 b3 b4 b5 b6 b7 b8 b9 b10 b11 b12 b13 b14 b15 small kind ok.
    let e = flags_back b3 (small 3) ok.blank in
    let lower = four_whole b4 b5 b6 b7 (small 4) (small 5) (small 6) (small 7) in
    let upper = four_whole b8 b9 b10 b11 (small 8) (small 9) (small 10) (small 11) in
    let z = λ (k : ℕ). sym (ok.zero_rest k) in
    ap (axis_bytes b1) ok.is
    ∙ (λ i. sym kind i ∷ b1 ∷ b2 ∷ e i ∷ (lower i ++ (upper i ++ (z 0 i ∷ z 1 i ∷ z 2 i ∷ z 3 i ∷ []))))

term_back : (axes : List Axis) (t : Term) (b : List ℕ) → length b ≡ 16 → Bytes b → get_or b 0 0 ≡ 2 → TermOk axes (four b 1) (get_or b 5 0 ∷ get_or b 6 0 ∷ get_or b 7 0 ∷ []) (four b 8) (four b 12) t → term_bytes t ≡ b
term_back axes t =
    by_sixteen (λ b. Bytes b → get_or b 0 0 ≡ 2 → TermOk axes (four b 1) (get_or b 5 0 ∷ get_or b 6 0 ∷ get_or b 7 0 ∷ []) (four b 8) (four b 12) t → term_bytes t ≡ b)
    λ b0 b1 b2 b3 b4 b5 b6 b7 b8 b9 b10 b11 b12 b13 b14 b15 small kind ok.
    let coefficient = four_whole b8 b9 b10 b11 (small 8) (small 9) (small 10) (small 11) in
    let drift = four_whole b12 b13 b14 b15 (small 12) (small 13) (small 14) (small 15) in
    let z = λ (k : ℕ). sym (ok.zero_blank k) in
    ap term_bytes ok.is
    ∙ (λ i. sym kind i ∷ b1 ∷ b2 ∷ b3 ∷ b4 ∷ z 0 i ∷ z 1 i ∷ z 2 i ∷ (coefficient i ++ drift i))

question_back : (q : Question) (b : List ℕ) → length b ≡ 16 → get_or b 0 0 ≡ 3 → QuestionOk (get_or b 1 0) (get_or b 2 0) (drop 3 b) q → question_bytes q.relation q.depth ≡ b
question_back q =
    by_sixteen (λ b. get_or b 0 0 ≡ 3 → QuestionOk (get_or b 1 0) (get_or b 2 0) (drop 3 b) q → question_bytes q.relation q.depth ≡ b)
    λ b0 b1 b2 b3 b4 b5 b6 b7 b8 b9 b10 b11 b12 b13 b14 b15 kind ok.
    let z = λ (k : ℕ). sym (ok.zero_rest k) in
    λ i. sym kind i ∷ ok.relation_is i ∷ ok.depth_is i ∷ z 0 i ∷ z 1 i ∷ z 2 i ∷ z 3 i ∷ z 4 i ∷ z 5 i ∷ z 6 i ∷ z 7 i ∷ z 8 i ∷ z 9 i ∷ z 10 i ∷ z 11 i ∷ z 12 i ∷ []

term_fits : (axes : List Axis) (t : Term) (b : List ℕ) → length b ≡ 16 → Bytes b → TermOk axes (four b 1) (get_or b 5 0 ∷ get_or b 6 0 ∷ get_or b 7 0 ∷ []) (four b 8) (four b 12) t → term_formed axes t ≡ true
term_fits axes t b e small ok =
    subst (λ x. term_formed axes x ≡ true) (sym ok.is)
    (both ok.exponents
    (both (whole_fits _ _ _ _ (small 8) (small 9) (small 10) (small 11)) (whole_fits _ _ _ _ (small 12) (small 13) (small 14) (small 15))))

-- ---- what was seen, and its bytes
abbrev pub asked_bytes : Option Question → List ℕ
asked_bytes None = []
asked_bytes (Some q) = question_bytes q.relation q.depth

abbrev pub seen_bytes : Seen → List ℕ
seen_bytes s = axes_bytes 0 s.axes ++ (terms_bytes s.terms ++ asked_bytes s.question)

axes_push : (k : ℕ) (xs : List Axis) (a : Axis) → axes_bytes k (xs ++ a ∷ []) ≡ axes_bytes k xs ++ axis_bytes (k + length xs) a
axes_push k [] a = let e : k + 0 ≡ k = omega arith in append-nil (axis_bytes k a) ∙ ap (λ j. axis_bytes j a) (sym e)
axes_push k (x ∷ xs) a =
    let e : k + 1 + length xs ≡ k + suc (length xs) = omega arith in
    ap (λ l. axis_bytes k x ++ l) (axes_push (k + 1) xs a ∙ ap (λ j. axes_bytes (k + 1) xs ++ axis_bytes j a) e)
    ∙ sym (append_assoc (axis_bytes k x) (axes_bytes (k + 1) xs) (axis_bytes (k + suc (length xs)) a))

terms_push : (xs : List Term) (t : Term) → terms_bytes (xs ++ t ∷ []) ≡ terms_bytes xs ++ term_bytes t
terms_push [] t = append-nil (term_bytes t)
terms_push (x ∷ xs) t = ap (λ l. term_bytes x ++ l) (terms_push xs t) ∙ sym (append_assoc (term_bytes x) (terms_bytes xs) (term_bytes t))

-- ---- each record keeps what was seen well formed, and adds its bytes
pub record Good (s : Seen) : Type 0 where
  pub few_axes : length s.axes ≤ 4
  pub few_terms : length s.terms ≤ 128
  pub axes : all axis_formed s.axes ≡ true
  pub terms : all (term_formed s.axes) s.terms ≡ true
  pub asked : (q : Question) → s.question ≡ Some q → (is_depth q.depth ≡ true) × (1 ≤ length s.axes)

-- the record r, which stands in the bytes b, may be added
pub record Step (s : Seen) (b : List ℕ) (r : Record) : Type 0 where
  pub good : Good (added r s)
  pub same : seen_bytes (added r s) ≡ seen_bytes s ++ b

none_asked : (o : Option Question) → not (is_some o) ≡ true → o ≡ None
none_asked (Some q) e = cc
none_asked None e = refl

axis_step : (n : ℕ) (s : Seen) (b : List ℕ) (r : Record) → length b ≡ 16 → Bytes b → Good s → s.question ≡ None → get_or b 0 0 ≡ 1 → axis_record n s b ≡ Ok r → Step s b r
unfolding axis_record
axis_step n s b r long small g none kind h =
    let p1 = next_ok (checked (axis_in_turn s (get_or b 1 0)) (fault Turn n 0)) _ r h in
    let p2 = next_ok (axis_of n (get_or b 2 0) (get_or b 3 0) (four b 4) (four b 8) (drop 12 b)) _ r p1.2 in
    let a : Axis = p2.0 in
    let ok = axis_ok n (get_or b 2 0) (get_or b 3 0) (four b 4) (four b 8) (drop 12 b) a p2.1 in
    let turn = and_parts (eqb (length s.terms) 0) (eqb (get_or b 1 0) (length s.axes) && ltb (length s.axes) 4) (checked_ok (axis_in_turn s (get_or b 1 0)) (fault Turn n 0) p1.0 p1.1) in
    let turn2 = and_parts (eqb (get_or b 1 0) (length s.axes)) (ltb (length s.axes) 4) turn.1 in
    let no_terms : s.terms ≡ [] = nil_from_length s.terms (eqb-true _ _ turn.0) in
    let number : get_or b 1 0 ≡ length s.axes = eqb-true _ _ turn2.0 in
    let room : length s.axes < 4 = ltb-true _ _ turn2.1 in
    let longer : length (s.axes ++ a ∷ []) ≡ length s.axes + 1 = length_push s.axes a in
    let zero_number : 0 + length s.axes ≡ get_or b 1 0 = omega arith in
    let bytes : axis_bytes (0 + length s.axes) a ≡ b = ap (λ k. axis_bytes k a) zero_number ∙ axis_back a b long small kind ok in
    let is : IsAxis a ≡ r = cc p2.2 in
    let good : Good (added (IsAxis a) s) = record {
      few_axes = omega arith;
      few_terms = g.few_terms;
      axes = all_push axis_formed s.axes a g.axes ok.formed;
      terms = ap (all (term_formed (s.axes ++ a ∷ []))) no_terms;
      asked = λ q e. let x : None ≡ Some q = sym none ∙ e in cc;
    } in
    let rest : terms_bytes s.terms ++ asked_bytes s.question ≡ [] = λ i. terms_bytes (no_terms i) ++ asked_bytes (none i) in
    let same : seen_bytes (added (IsAxis a) s) ≡ seen_bytes s ++ b =
    ap (λ l. axes_bytes 0 (s.axes ++ a ∷ []) ++ l) rest
    ∙ append-nil (axes_bytes 0 (s.axes ++ a ∷ []))
    ∙ axes_push 0 s.axes a
    ∙ ap (λ l. axes_bytes 0 s.axes ++ l) bytes
    ∙ ap (λ l. l ++ b) (sym (append-nil (axes_bytes 0 s.axes)) ∙ ap (λ l. axes_bytes 0 s.axes ++ l) (sym rest)) in
    let step : Step s b (IsAxis a) = record { good = good; same = same } in
    subst (Step s b) is step

term_step : (n : ℕ) (s : Seen) (b : List ℕ) (r : Record) → length b ≡ 16 → Bytes b → Good s → s.question ≡ None → get_or b 0 0 ≡ 2 → term_record n s b ≡ Ok r → Step s b r
unfolding term_record
term_step n s b r long small g none kind h =
    let blank : List ℕ = get_or b 5 0 ∷ get_or b 6 0 ∷ get_or b 7 0 ∷ [] in
    let p1 = next_ok (checked (term_in_turn s) (fault Turn n 0)) _ r h in
    let p2 = next_ok (term_of s.axes n (four b 1) blank (four b 8) (four b 12)) _ r p1.2 in
    let t : Term = p2.0 in
    let ok = term_ok s.axes n (four b 1) blank (four b 8) (four b 12) t p2.1 in
    let turn = and_parts (ltb 0 (length s.axes)) (ltb (length s.terms) 128) (checked_ok (term_in_turn s) (fault Turn n 0) p1.0 p1.1) in
    let room : length s.terms < 128 = ltb-true _ _ turn.1 in
    let longer : length (s.terms ++ t ∷ []) ≡ length s.terms + 1 = length_push s.terms t in
    let is : IsTerm t ≡ r = cc p2.2 in
    let good : Good (added (IsTerm t) s) = record {
      few_axes = g.few_axes;
      few_terms = omega arith;
      axes = g.axes;
      terms = all_push (term_formed s.axes) s.terms t g.terms (term_fits s.axes t b long small ok);
      asked = g.asked;
    } in
    let nothing_asked : asked_bytes s.question ≡ [] = ap asked_bytes none in
    let same : seen_bytes (added (IsTerm t) s) ≡ seen_bytes s ++ b =
    ap (λ l. axes_bytes 0 s.axes ++ l)
    (ap (λ l. terms_bytes (s.terms ++ t ∷ []) ++ l) nothing_asked
    ∙ append-nil (terms_bytes (s.terms ++ t ∷ []))
    ∙ terms_push s.terms t
    ∙ ap (λ l. terms_bytes s.terms ++ l) (term_back s.axes t b long small kind ok)
    ∙ ap (λ l. l ++ b) (sym (append-nil (terms_bytes s.terms)) ∙ ap (λ l. terms_bytes s.terms ++ l) (sym nothing_asked)))
    ∙ sym (append_assoc (axes_bytes 0 s.axes) (terms_bytes s.terms ++ asked_bytes s.question) b) in
    let step : Step s b (IsTerm t) = record { good = good; same = same } in
    subst (Step s b) is step

question_step : (n : ℕ) (s : Seen) (b : List ℕ) (r : Record) → length b ≡ 16 → Good s → s.question ≡ None → get_or b 0 0 ≡ 3 → question_record n s b ≡ Ok r → Step s b r
unfolding question_record
question_step n s b r long g none kind h =
    let p1 = next_ok (checked (question_in_turn s) (fault Turn n 0)) _ r h in
    let p2 = next_ok (question_of n (get_or b 1 0) (get_or b 2 0) (drop 3 b)) _ r p1.2 in
    let q : Question = p2.0 in
    let ok = question_ok n (get_or b 1 0) (get_or b 2 0) (drop 3 b) q p2.1 in
    let some : 0 < length s.axes = ltb-true _ _ (checked_ok (question_in_turn s) (fault Turn n 0) p1.0 p1.1) in
    let is : IsQuestion q ≡ r = cc p2.2 in
    let deep : is_depth q.depth ≡ true = ap is_depth ok.depth_is ∙ ok.depth_ok in
    let good : Good (added (IsQuestion q) s) = record {
      few_axes = g.few_axes;
      few_terms = g.few_terms;
      axes = g.axes;
      terms = g.terms;
      asked = λ q' e. let i : q ≡ q' = cc in (subst (λ x. is_depth x.depth ≡ true) i deep, some);
    } in
    let nothing_asked : asked_bytes s.question ≡ [] = ap asked_bytes none in
    let same : seen_bytes (added (IsQuestion q) s) ≡ seen_bytes s ++ b =
    ap (λ l. axes_bytes 0 s.axes ++ l)
    (ap (λ l. terms_bytes s.terms ++ l) (question_back q b long kind ok)
    ∙ ap (λ l. l ++ b) (sym (append-nil (terms_bytes s.terms)) ∙ ap (λ l. terms_bytes s.terms ++ l) (sym nothing_asked)))
    ∙ sym (append_assoc (axes_bytes 0 s.axes) (terms_bytes s.terms ++ asked_bytes s.question) b) in
    let step : Step s b (IsQuestion q) = record { good = good; same = same } in
    subst (Step s b) is step

kind_tests : {X : Type 0} (k : ℕ) (p q r t y : X) (a b c : Bool) → eqb k 1 ≡ a → eqb k 2 ≡ b → eqb k 3 ≡ c → cond a p (cond b q (cond c r t)) ≡ y → ((k ≡ 1) × (p ≡ y)) ⊎ (((k ≡ 2) × (q ≡ y)) ⊎ (((k ≡ 3) × (r ≡ y)) ⊎ (t ≡ y)))
kind_tests k p q r t y true b c e f g h = inl (eqb-true k 1 e, h)
kind_tests k p q r t y false true c e f g h = inr (inl (eqb-true k 2 f, h))
kind_tests k p q r t y false false true e f g h = inr (inr (inl (eqb-true k 3 g, h)))
kind_tests k p q r t y false false false e f g h = inr (inr (inr h))

record_step : (n : ℕ) (s : Seen) (b : List ℕ) (r : Record) → length b ≡ 16 → Bytes b → Good s → record_of n s b ≡ Ok r → Step s b r
unfolding record_of
record_step n s b r long small g h =
    let p1 = next_ok (checked (not (is_some s.question)) (fault Turn n 0)) _ r h in
    let none = none_asked s.question (checked_ok (not (is_some s.question)) (fault Turn n 0) p1.0 p1.1) in
    let k : ℕ = get_or b 0 0 in
    ⊎_elim (λ e. axis_step n s b r long small g none e.0 e.1)
    (⊎_elim (λ e. term_step n s b r long small g none e.0 e.1)
    (⊎_elim (λ e. question_step n s b r long g none e.0 e.1)
    (λ e. cc)))
    (kind_tests k (axis_record n s b) (term_record n s b) (question_record n s b) (Err (fault Turn n 0)) (Ok r) (eqb k 1) (eqb k 2) (eqb k 3) refl refl refl p1.2)

-- ---- all records
bytes_take : (n : ℕ) (bs : List ℕ) → n ≤ length bs → Bytes bs → Bytes (take n bs)
bytes_take n bs long small k =
    ⊎_elim (λ l. subst (λ x. x < 256) (sym (get_or-take n bs k 0 l)) (small k))
    (λ l.
    let short : length (take n bs) ≡ n = length-take-le n bs long in
    let z : get_or (take n bs) k 0 ≡ 0 = get_or_past (take n bs) k 0 (omega arith) in
    omega arith)
    (cases_lt k n)

bytes_drop : (n : ℕ) (bs : List ℕ) → Bytes bs → Bytes (drop n bs)
bytes_drop n bs small k = subst (λ x. x < 256) (sym (get_or-drop n bs k 0)) (small (n + k))

pub record Run (s t : Seen) (bs : List ℕ) : Type 0 where
  pub good : Good t
  pub same : seen_bytes t ≡ seen_bytes s ++ bs

records_run : (m n : ℕ) (s t : Seen) (bs : List ℕ) → length bs ≡ 16 * m → Bytes bs → Good s → records_of m n s bs ≡ Ok t → Run s t bs
unfolding records_of
records_run zero n s t bs long small g h =
    let same : s ≡ t = cc in
    let none : bs ≡ [] = nil_from_length bs (omega arith) in
    record { good = subst Good same g; same = ap seen_bytes (sym same) ∙ sym (append-nil (seen_bytes s)) ∙ ap (λ l. seen_bytes s ++ l) (sym none) }
records_run (suc m) n s t bs long small g h =
    let p = next_ok (record_of n s (take 16 bs)) _ t h in
    let r : Record = p.0 in
    let enough : 16 ≤ length bs = omega arith in
    let left : length (drop 16 bs) ≡ 16 * m = let e = length-drop 16 bs in omega arith in
    let step = record_step n s (take 16 bs) r (length-take-le 16 bs enough) (bytes_take 16 bs enough small) g p.1 in
    let run = records_run m (n + 1) (added r s) t (drop 16 bs) left (bytes_drop 16 bs small) step.good p.2 in
    record {
      good = run.good;
      same = run.same ∙ ap (λ l. l ++ drop 16 bs) step.same ∙ append_assoc (seen_bytes s) (take 16 bs) (drop 16 bs) ∙ ap (λ l. seen_bytes s ++ l) (take-append-drop 16 bs);
    }

-- ---- the ticket
finished_sound : (o : Option Question) (s : Seen) (m : ℕ) (c : Content) (bs : List ℕ) → Run nothing s bs → s.question ≡ o → finished o s m ≡ Ok c → Encodes c bs
unfolding encoded
finished_sound (Some q) s m c bs run e h =
    let is : ticket_of s q ≡ c = cc in
    let g = run.good in
    let a = g.asked q e in
    let formed : Formed (ticket_of s q) =
    both (both (le-leb 1 (length s.axes) a.1) (le-leb (length s.axes) 4 g.few_axes))
    (both (le-leb (length s.terms) 128 g.few_terms) (both g.axes (both g.terms a.0))) in
    let same : bs ≡ encoded (ticket_of s q) = sym run.same ∙ ap (λ x. axes_bytes 0 s.axes ++ (terms_bytes s.terms ++ asked_bytes x)) e in
    let sound : Encodes (ticket_of s q) bs = record { formed = formed; same = same } in
    subst (λ x. Encodes x bs) is sound
finished_sound None s m c bs run e h = cc

start_good : Good nothing
start_good = record { few_axes = omega arith; few_terms = omega arith; axes = refl; terms = refl; asked = λ q e. cc }

-- what is read is well formed, and the bytes are its encoding
pub sound : (bs : List ℕ) (c : Content) → Bytes bs → reading bs ≡ Ok c → Encodes c bs
unfolding reading
sound bs c small h =
    let p1 = next_ok (checked (is_length (length bs)) (fault Length 0 0)) _ c h in
    let p2 = next_ok (records_of (length bs / 16) 0 nothing bs) _ c p1.2 in
    let s : Seen = p2.0 in
    let sized = and_parts (ltb 0 (length bs)) (eqb (length bs % 16) 0 && leb (length bs / 16) 133) (checked_ok (is_length (length bs)) (fault Length 0 0) p1.0 p1.1) in
    let even : length bs % 16 ≡ 0 = eqb-true (length bs % 16) 0 (and_parts (eqb (length bs % 16) 0) (leb (length bs / 16) 133) sized.1).0 in
    let long : length bs ≡ 16 * (length bs / 16) = omega arith in
    finished_sound s.question s (length bs / 16) c bs (records_run (length bs / 16) 0 nothing s bs long small start_good p2.1) refl p2.2
