-- The encoding of every well-formed ticket is read as that ticket.
use Rattle.std.proofs.Common.{◌≡◌, ℕ, suc, ◌+◌, ◌-◌, ◌*◌, ◌/◌, ◌%◌, ◌<◌, ◌≤◌, Bool, true, ◌&&◌, eqb, leb, List, [], ◌∷◌, ◌++◌, length, take, drop, ℤ, None, Ok, Result, sym, refl, ap, ◌∙◌, arith}
use lib.Signed.{lt_z}
use Rattle.std.proofs.lemmas.List.{append-nil, append_assoc, length-append, length_push}
use Rattle.std.proofs.lemmas.Bool.{and_parts, eqb-true, leb-true, le-leb, lt-ltb, eq-eqb}
use Rattle.ticket.specs.Encoding.{axis_bytes, term_bytes, question_bytes, axes_bytes, terms_bytes, encoded}
use Rattle.ticket.specs.Faults.{fault, checked, next, each_checked}
use Rattle.ticket.specs.Numbers.{is_degree, is_end, is_depth, whole, four_bytes, fits_four_bytes, flags}
use Rattle.ticket.specs.Reading.{axis_of, term_of, question_of, known, Seen, nothing, added, axis_record, term_record, question_record, record_of, records_of, finished, is_length, reading}
use Rattle.ticket.specs.WellFormed.{Content, degree_at, all, axis_formed, exponents_formed, term_formed, Formed}
use Rattle.ticket.specs.declared.fault.Fault.{Fault}
use Rattle.ticket.specs.declared.fault.Refusal.TheVariants.{Length, Turn, NotZero, Degree, End, Exponent, Relation as NoRelation, Depth}
use Rattle.ticket.specs.declared.records.Axis.{Axis}
use Rattle.ticket.specs.declared.records.Term.{Term}
use Rattle.ticket.specs.declared.records.Relation.{Relation}
use Rattle.ticket.specs.declared.records.Question.{Question}
use Rattle.ticket.specs.declared.records.Record.TheVariants.{Axis as IsAxis, Term as IsTerm, Question as IsQuestion}
use Rattle.ticket.proofs.Bytes.{flags_blank, lower_back, upper_back, whole_four, relation_back, end_fits}
use Rattle.ticket.proofs.Listed.{both, by_four}

-- ---- chains that go through
pass : {Y : Type 0} {b : Bool} (f : Fault) (k : Unit {0} → Result Y Fault) {s : Result Y Fault} → b ≡ true → k tt ≡ s → next (checked b f) k ≡ s
pass f k e h = ap (λ t. next (checked t f) k) e ∙ h

-- ---- one record
axis_reads : (n d : ℕ) (l u : Bool) (lower upper : List ℕ) (a : Axis) → axis_formed a ≡ true → a.degree ≡ d → whole lower ≡ a.lower → whole upper ≡ a.upper → a.lower_open ≡ l → a.upper_open ≡ u → axis_of n d (flags l u) lower upper (0 ∷ 0 ∷ 0 ∷ 0 ∷ []) ≡ Ok a
unfolding axis_of each_checked
axis_reads n d l u lower upper a formed degree_is lower-is upper_is l-is u-is =
    let p1 = and_parts (is_degree a.degree) (is_end a.lower && (is_end a.upper && lt_z a.lower a.upper)) formed in
    let p2 = and_parts (is_end a.lower) (is_end a.upper && lt_z a.lower a.upper) p1.1 in
    let p3 = and_parts (is_end a.upper) (lt_z a.lower a.upper) p2.1 in
    pass (fault NotZero n 3) _ (flags_blank l u)
    (pass (fault Degree n 2) _ (ap is_degree (sym degree_is) ∙ p1.0)
    (pass (fault End n 4) _ (ap is_end lower-is ∙ p2.0)
    (pass (fault End n 8) _ (ap is_end upper_is ∙ p3.0)
    (pass (fault End n 8) _ ((λ i. lt_z (lower-is i) (upper_is i)) ∙ p3.1)
    (λ i. Ok (let x : Axis = record {
      degree = sym degree_is i;
      lower = lower-is i;
      upper = upper_is i;
      lower_open = (lower_back l u ∙ sym l-is) i;
      upper_open = (upper_back l u ∙ sym u-is) i;
    } in x))))))

exponents_read : (axes : List Axis) (n j : ℕ) (es : List ℕ) → exponents_formed axes j es ≡ true → each_checked (λ b e. leb e (degree_at axes (b - 1))) (fault Exponent n) (j + 1) es ≡ Ok tt
unfolding each_checked
exponents_read axes n j [] h = refl
exponents_read axes n j (e ∷ es) h =
    let p = and_parts (leb e (degree_at axes j)) (exponents_formed axes (j + 1) es) h in
    let i : j + 1 - 1 ≡ j = omega arith in
    pass (fault Exponent n (j + 1)) _ (ap (λ k. leb e (degree_at axes k)) i ∙ p.0) (exponents_read axes n (j + 1) es p.1)

-- ---- what was seen
abbrev at : List Axis → List Term → Seen
at axes terms = record { axes = axes; terms = terms; question = None }

axis_next : (n : ℕ) (axes : List Axis) (a : Axis) → axis_formed a ≡ true → length axes < 4 → record_of n (at axes []) (axis_bytes (length axes) a) ≡ Ok (IsAxis a)
unfolding record_of axis_record
axis_next n axes a formed room =
    let p1 = and_parts (is_degree a.degree) (is_end a.lower && (is_end a.upper && lt_z a.lower a.upper)) formed in
    let p2 = and_parts (is_end a.lower) (is_end a.upper && lt_z a.lower a.upper) p1.1 in
    let p3 = and_parts (is_end a.upper) (lt_z a.lower a.upper) p2.1 in
    pass (fault Turn n 0) _ (both (eq-eqb (length axes) (length axes) refl) (lt-ltb (length axes) 4 room))
    (ap (λ r. next r (λ x. Ok (IsAxis x)))
    (axis_reads n a.degree a.lower_open a.upper_open (four_bytes a.lower) (four_bytes a.upper) a formed refl
    (whole_four a.lower (end_fits a.lower p2.0)) (whole_four a.upper (end_fits a.upper p3.0)) refl refl))

-- the exponents are written out, so that the bytes of the record can be counted
term_next : (n : ℕ) (axes : List Axis) (ts : List Term) (c v : ℤ) → fits_four_bytes c ≡ true → fits_four_bytes v ≡ true → 0 < length axes → length ts < 128 → (es : List ℕ) → length es ≡ 4 → exponents_formed axes 0 es ≡ true → (rest : List ℕ) →
    let t : Term = record { exponents = es; coefficient = c; drift = v } in (record_of n (at axes ts) (take 16 (term_bytes t ++ rest)) ≡ Ok (IsTerm t)) × (drop 16 (term_bytes t ++ rest) ≡ rest)
unfolding record_of term_record term_of each_checked
term_next n axes ts c v c-fits v-fits some room =
    by_four (λ es. exponents_formed axes 0 es ≡ true → (rest : List ℕ) → let t : Term = record { exponents = es; coefficient = c; drift = v } in (record_of n (at axes ts) (take 16 (term_bytes t ++ rest)) ≡ Ok (IsTerm t)) × (drop 16 (term_bytes t ++ rest) ≡ rest))
    λ e0 e1 e2 e3 formed rest. (
      pass (fault Turn n 0) _ (both (lt-ltb 0 (length axes) some) (lt-ltb (length ts) 128 room))
          (ap (λ r. next (next r (λ _. Ok (let t : Term = record { exponents = e0 ∷ e1 ∷ e2 ∷ e3 ∷ []; coefficient = whole (four_bytes c); drift = whole (four_bytes v) } in t))) (λ x. Ok (IsTerm x))) (exponents_read axes n 0 (e0 ∷ e1 ∷ e2 ∷ e3 ∷ []) formed)
          ∙ (λ i. Ok (IsTerm (let t : Term = record { exponents = e0 ∷ e1 ∷ e2 ∷ e3 ∷ []; coefficient = whole_four c c-fits i; drift = whole_four v v-fits i } in t)))),
      refl,
    )

question_next : (n : ℕ) (axes : List Axis) (ts : List Term) (r : Relation) (d : ℕ) → 0 < length axes → is_depth d ≡ true → record_of n (at axes ts) (question_bytes r d) ≡ Ok (IsQuestion (record { relation = r; depth = d }))
unfolding record_of question_record question_of each_checked
question_next n axes ts r d some deep =
    pass (fault Turn n 0) _ (lt-ltb 0 (length axes) some)
    (ap (λ o. next (next (known o (fault NoRelation n 1)) (λ asked. next (checked (is_depth d) (fault Depth n 2)) (λ _. Ok (let q : Question = record { relation = asked; depth = d } in q)))) (λ q. Ok (IsQuestion q))) (relation_back r)
    ∙ ap (λ t. next (next (checked t (fault Depth n 2)) (λ _. Ok (let q : Question = record { relation = r; depth = d } in q))) (λ q. Ok (IsQuestion q))) deep)

-- ---- record after record
axes_read : (more axes : List Axis) (m n : ℕ) (rest : List ℕ) → all axis_formed more ≡ true → length axes + length more ≤ 4 → records_of (length more + m) n (at axes []) (axes_bytes (length axes) more ++ rest) ≡ records_of m (n + length more) (at (axes ++ more) []) rest
unfolding records_of
axes_read [] axes m n rest formed room =
    let e : 0 + m ≡ m = omega arith in
    let f : n + 0 ≡ n = omega arith in
    ap (λ k. records_of k n (at axes []) rest) e ∙ (λ i. records_of m (sym f i) (at (sym (append-nil axes) i) []) rest)
axes_read (a ∷ more) axes m n rest formed room =
    let p = and_parts (axis_formed a) (all axis_formed more) formed in
    let few : length axes < 4 = omega arith in
    let longer : length (axes ++ a ∷ []) ≡ length axes + 1 = length_push axes a in
    let e : suc (length more) + m ≡ suc (length more + m) = omega arith in
    let f : n + 1 + length more ≡ n + suc (length more) = omega arith in
    let room_left : length (axes ++ a ∷ []) + length more ≤ 4 = omega arith in
    ap (λ k. records_of k n (at axes []) (axes_bytes (length axes) (a ∷ more) ++ rest)) e
    ∙ ap (λ r. next r (λ x. records_of (length more + m) (n + 1) (added x (at axes [])) (axes_bytes (length axes + 1) more ++ rest))) (axis_next n axes a p.0 few)
    ∙ ap (λ k. records_of (length more + m) (n + 1) (at (axes ++ a ∷ []) []) (axes_bytes k more ++ rest)) (sym longer)
    ∙ axes_read more (axes ++ a ∷ []) m (n + 1) rest p.1 room_left
    ∙ (λ i. records_of m (f i) (at (append_assoc axes (a ∷ []) more i) []) rest)

record TermParts (axes : List Axis) (t : Term) : Type 0 where
  four : length t.exponents ≡ 4
  exponents : exponents_formed axes 0 t.exponents ≡ true
  coefficient : fits_four_bytes t.coefficient ≡ true
  drift : fits_four_bytes t.drift ≡ true

term_parts : (axes : List Axis) (t : Term) → term_formed axes t ≡ true → TermParts axes t
term_parts axes t h =
    let p1 = and_parts (eqb (length t.exponents) 4) (exponents_formed axes 0 t.exponents && (fits_four_bytes t.coefficient && fits_four_bytes t.drift)) h in
    let p2 = and_parts (exponents_formed axes 0 t.exponents) (fits_four_bytes t.coefficient && fits_four_bytes t.drift) p1.1 in
    let p3 = and_parts (fits_four_bytes t.coefficient) (fits_four_bytes t.drift) p2.1 in
    record { four = eqb-true _ _ p1.0; exponents = p2.0; coefficient = p3.0; drift = p3.1 }

terms_read : (more ts : List Term) (axes : List Axis) (m n : ℕ) (rest : List ℕ) → 0 < length axes → all (term_formed axes) more ≡ true → length ts + length more ≤ 128 → records_of (length more + m) n (at axes ts) (terms_bytes more ++ rest) ≡ records_of m (n + length more) (at axes (ts ++ more)) rest
unfolding records_of
terms_read [] ts axes m n rest some formed room =
    let e : 0 + m ≡ m = omega arith in
    let f : n + 0 ≡ n = omega arith in
    ap (λ k. records_of k n (at axes ts) rest) e ∙ (λ i. records_of m (sym f i) (at axes (sym (append-nil ts) i)) rest)
terms_read (t ∷ more) ts axes m n rest some formed room =
    let p = and_parts (term_formed axes t) (all (term_formed axes) more) formed in
    let q = term_parts axes t p.0 in
    let few : length ts < 128 = omega arith in
    let longer : length (ts ++ t ∷ []) ≡ length ts + 1 = length_push ts t in
    let e : suc (length more) + m ≡ suc (length more + m) = omega arith in
    let f : n + 1 + length more ≡ n + suc (length more) = omega arith in
    let room_left : length (ts ++ t ∷ []) + length more ≤ 128 = omega arith in
    let after : List ℕ = terms_bytes more ++ rest in
    let here = term_next n axes ts t.coefficient t.drift q.coefficient q.drift some few t.exponents q.four q.exponents after in
    (λ i. records_of (e i) n (at axes ts) (append_assoc (term_bytes t) (terms_bytes more) rest i))
    ∙ (λ i. next (here.0 i) (λ x. records_of (length more + m) (n + 1) (added x (at axes ts)) (here.1 i)))
    ∙ terms_read more (ts ++ t ∷ []) axes m (n + 1) rest some p.1 room_left
    ∙ (λ i. records_of m (f i) (at axes (append_assoc ts (t ∷ []) more i)) rest)

-- ---- lengths
axes_long : (k : ℕ) (axes : List Axis) → length (axes_bytes k axes) ≡ 16 * length axes
axes_long k [] = refl
axes_long k (a ∷ more) = let h = axes_long (k + 1) more in omega arith

terms_long : (axes : List Axis) (ts : List Term) → all (term_formed axes) ts ≡ true → length (terms_bytes ts) ≡ 16 * length ts
terms_long axes [] h = refl
terms_long axes (t ∷ more) h =
    let p = and_parts (term_formed axes t) (all (term_formed axes) more) h in
    let tail : List ℕ = 0 ∷ 0 ∷ 0 ∷ (four_bytes t.coefficient ++ four_bytes t.drift) in
    let here : length (t.exponents ++ tail) ≡ length t.exponents + 11 = length-append t.exponents tail in
    let four : length t.exponents ≡ 4 = (term_parts axes t p.0).four in
    let both_parts = length-append (term_bytes t) (terms_bytes more) in
    let rest = terms_long axes more p.1 in
    omega arith

-- ---- the ticket
record Parts (c : Content) : Type 0 where
  some_axes : 1 ≤ length c.axes
  few_axes : length c.axes ≤ 4
  few_terms : length c.terms ≤ 128
  axes : all axis_formed c.axes ≡ true
  terms : all (term_formed c.axes) c.terms ≡ true
  deep : is_depth c.depth ≡ true

parts : (c : Content) → Formed c → Parts c
parts c h =
    let p1 = and_parts (leb 1 (length c.axes) && leb (length c.axes) 4) (leb (length c.terms) 128 && (all axis_formed c.axes && (all (term_formed c.axes) c.terms && is_depth c.depth))) h in
    let p2 = and_parts (leb 1 (length c.axes)) (leb (length c.axes) 4) p1.0 in
    let p3 = and_parts (leb (length c.terms) 128) (all axis_formed c.axes && (all (term_formed c.axes) c.terms && is_depth c.depth)) p1.1 in
    let p4 = and_parts (all axis_formed c.axes) (all (term_formed c.axes) c.terms && is_depth c.depth) p3.1 in
    let p5 = and_parts (all (term_formed c.axes) c.terms) (is_depth c.depth) p4.1 in
    record { some_axes = leb-true _ _ p2.0; few_axes = leb-true _ _ p2.1; few_terms = leb-true _ _ p3.0; axes = p4.0; terms = p5.0; deep = p5.1 }

-- an axis each, a term each, and one question
abbrev count : Content → ℕ
count c = length c.axes + (length c.terms + 1)

encoded_long : (c : Content) → Parts c → length (encoded c) ≡ 16 * count c
unfolding encoded
encoded_long c p =
    let e1 = length-append (axes_bytes 0 c.axes) (terms_bytes c.terms ++ question_bytes c.relation c.depth) in
    let e2 = length-append (terms_bytes c.terms) (question_bytes c.relation c.depth) in
    let a = axes_long 0 c.axes in
    let t = terms_long c.axes c.terms p.terms in
    let q : length (question_bytes c.relation c.depth) ≡ 16 = refl in
    omega arith

records_read : (c : Content) → Parts c → records_of (count c) 0 nothing (encoded c) ≡ Ok (added (IsQuestion (record { relation = c.relation; depth = c.depth })) (at c.axes c.terms))
unfolding encoded records_of
records_read c p =
    let asked : List ℕ = question_bytes c.relation c.depth in
    axes_read c.axes [] (length c.terms + 1) 0 (terms_bytes c.terms ++ asked) p.axes (omega (arith, p.few_axes))
    ∙ terms_read c.terms [] c.axes 1 (0 + length c.axes) asked p.some_axes p.terms (omega (arith, p.few_terms))
    ∙ ap (λ r. next r (λ x. Ok (added x (at c.axes c.terms)))) (question_next (0 + length c.axes + length c.terms) c.axes c.terms c.relation c.depth p.some_axes p.deep)

is_long : (n m : ℕ) → n ≡ 16 * m → 1 ≤ m → m ≤ 133 → is_length n ≡ true
is_long n m e some few =
    let even : n % 16 ≡ 0 = omega arith in
    let short : n / 16 ≤ 133 = omega arith in
    both (lt-ltb 0 n (omega arith)) (both (eq-eqb (n % 16) 0 even) (le-leb (n / 16) 133 short))

-- the encoding of a well-formed ticket is read as that ticket
pub complete : (c : Content) → Formed c → reading (encoded c) ≡ Ok c
unfolding reading
complete c h =
    let p = parts c h in
    let long : length (encoded c) ≡ 16 * count c = encoded_long c p in
    let records : length (encoded c) / 16 ≡ count c = omega arith in
    pass (fault Length 0 0) _ (is_long (length (encoded c)) (count c) long (omega (arith, p.some_axes)) (omega (arith, p.few_axes, p.few_terms)))
    (ap (λ m. next (records_of m 0 nothing (encoded c)) (λ s. finished s.question s (length (encoded c) / 16))) records
    ∙ ap (λ r. next r (λ s. finished s.question s (length (encoded c) / 16))) (records_read c p))
