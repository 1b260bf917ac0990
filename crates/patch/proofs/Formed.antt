-- What a well-formed ticket gives: degrees up to 8, ends that differ, and exponents at most the degrees.
use Rattle.std.proofs.Common.{◌≡◌, ℕ, zero, suc, ◌+◌, ◌≤◌, Bool, true, ◌&&◌, eqb, leb, List, [], ◌∷◌, map, length, get_or, ◌<ℤ◌, refl, ap, subst, arith}
use lib.Signed.{lt_z}
use Rattle.std.specs.List.{AllByRecursion}
use Rattle.std.proofs.lemmas.Int.{ints}
use Rattle.std.proofs.lemmas.Bool.{and_parts, leb-true}
use Rattle.ticket.specs.Numbers.{is_degree, is_end, is_depth, fits_four_bytes}
use Rattle.ticket.specs.WellFormed.{Content, degree_at, all, axis_formed, exponents_formed, term_formed, Formed}
use Rattle.ticket.specs.declared.records.Axis.{Axis}
use Rattle.ticket.specs.declared.records.Term.{Term}
use Rattle.ticket.specs.declared.records.Relation.{Relation}
use Rattle.ticket.specs.declared.records.Relation.TheVariants.{Greater, AtLeast, Less, AtMost}
use Rattle.patch.specs.FirstPatch.{negated, turned_terms}
use Rattle.ticket.specs.Sizes.{degrees_of}

pub record Sound (a : Axis) : Type 0 where
  pub some : 1 ≤ a.degree
  pub small : a.degree ≤ 8
  pub apart : a.lower <ℤ a.upper

-- each exponent is at most the degree of its axis, and 0 past the last axis
abbrev pub Fits : List ℕ → List ℕ → Type 0
Fits ns es = (j : ℕ) → get_or es j 0 ≤ get_or ns j 0

pub all_passed : {X : Type 0} (test : X → Bool) (P : X → Type 0) → ((x : X) → test x ≡ true → P x) → (xs : List X) → all test xs ≡ true → AllByRecursion P xs
all_passed test P f [] h = tt
all_passed test P f (x ∷ xs) h = let p = and_parts (test x) (all test xs) h in (f x p.0, all_passed test P f xs p.1)

pub axis_sound : (a : Axis) → axis_formed a ≡ true → Sound a
axis_sound a h =
    let p = and_parts (is_degree a.degree) (is_end a.lower && (is_end a.upper && lt_z a.lower a.upper)) h in
    let q = and_parts (is_end a.lower) (is_end a.upper && lt_z a.lower a.upper) p.1 in
    let r = and_parts (is_end a.upper) (lt_z a.lower a.upper) q.1 in
    let d = and_parts (leb 1 a.degree) (leb a.degree 8) p.0 in
    record { some = leb-true 1 a.degree d.0; small = leb-true a.degree 8 d.1; apart = omega (arith, ints, r.1) }

-- ---- exponents
degree_is : (axes : List Axis) (j : ℕ) → degree_at axes j ≡ get_or (degrees_of axes) j 0
degree_is [] j = refl
degree_is (a ∷ more) zero = refl
degree_is (a ∷ more) (suc j) = degree_is more j

pub exponents_below : (axes : List Axis) (j : ℕ) (es : List ℕ) → exponents_formed axes j es ≡ true → (i : ℕ) → get_or es i 0 ≤ degree_at axes (j + i)
exponents_below axes j [] h i = omega arith
exponents_below axes j (e ∷ es) h zero =
    let k : j ≡ j + 0 = omega arith in
    subst (λ m. e ≤ degree_at axes m) k (leb-true e (degree_at axes j) (and_parts (leb e (degree_at axes j)) (exponents_formed axes (j + 1) es) h).0)
exponents_below axes j (e ∷ es) h (suc i) =
    let k : j + 1 + i ≡ j + suc i = omega arith in
    subst (λ m. get_or es i 0 ≤ degree_at axes m) k (exponents_below axes (j + 1) es (and_parts (leb e (degree_at axes j)) (exponents_formed axes (j + 1) es) h).1 i)

pub exponents_fit : (axes : List Axis) (es : List ℕ) → exponents_formed axes 0 es ≡ true → Fits (degrees_of axes) es
exponents_fit axes es h j = let k : 0 + j ≡ j = omega arith in omega (arith, exponents_below axes 0 es h j, ap (degree_at axes) k, degree_is axes j)

term_fits : (axes : List Axis) (t : Term) → term_formed axes t ≡ true → Fits (degrees_of axes) t.exponents
term_fits axes t h j =
    let p = and_parts (eqb (length t.exponents) 4) (exponents_formed axes 0 t.exponents && (fits_four_bytes t.coefficient && fits_four_bytes t.drift)) h in
    let q = and_parts (exponents_formed axes 0 t.exponents) (fits_four_bytes t.coefficient && fits_four_bytes t.drift) p.1 in
    exponents_fit axes t.exponents q.0 j

-- ---- the ticket
module _ (c : Content) (formed : Formed c) where
  pub both_lists : (all axis_formed c.axes ≡ true) × (all (term_formed c.axes) c.terms ≡ true)
  both_lists =
      let p = and_parts (leb 1 (length c.axes) && leb (length c.axes) 4) (leb (length c.terms) 128 && (all axis_formed c.axes && (all (term_formed c.axes) c.terms && is_depth c.depth))) formed in
      let q = and_parts (leb (length c.terms) 128) (all axis_formed c.axes && (all (term_formed c.axes) c.terms && is_depth c.depth)) p.1 in
      let r = and_parts (all axis_formed c.axes) (all (term_formed c.axes) c.terms && is_depth c.depth) q.1 in
      (r.0, (and_parts (all (term_formed c.axes) c.terms) (is_depth c.depth) r.1).0)

  pub axes_sound : AllByRecursion Sound c.axes
  axes_sound = all_passed axis_formed Sound axis_sound c.axes both_lists.0

  pub terms_fit : AllByRecursion (λ t. Fits (degrees_of c.axes) t.exponents) c.terms
  terms_fit = all_passed (term_formed c.axes) (λ t. Fits (degrees_of c.axes) t.exponents) (term_fits c.axes) c.terms both_lists.1

negated_fit : (ns : List ℕ) (ts : List Term) → AllByRecursion (λ t. Fits ns t.exponents) ts → AllByRecursion (λ t. Fits ns t.exponents) (map negated ts)
negated_fit ns [] h = tt
negated_fit ns (t ∷ ts) h = (h.0, negated_fit ns ts h.1)

turned_fit : (r : Relation) (ns : List ℕ) (ts : List Term) → AllByRecursion (λ t. Fits ns t.exponents) ts → AllByRecursion (λ t. Fits ns t.exponents) (turned_terms r ts)
turned_fit Greater ns ts h = h
turned_fit AtLeast ns ts h = h
turned_fit Less ns ts h = negated_fit ns ts h
turned_fit AtMost ns ts h = negated_fit ns ts h

pub turned_terms_fit : (c : Content) → Formed c → AllByRecursion (λ t. Fits (degrees_of c.axes) t.exponents) (turned_terms c.relation c.terms)
turned_terms_fit c formed = turned_fit c.relation (degrees_of c.axes) c.terms (terms_fit c formed)
