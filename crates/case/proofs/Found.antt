-- What is found out about a box, by the answers to the questions that are asked of it.
use Rattle.std.proofs.Common.{◌≡◌, ℕ, zero, suc, ◌+◌, ◌^◌, ◌≤◌, Bool, true, false, cond, eqb, List, map, length, Some, None, Option, sym, refl, ap, ◌∙◌, arith}
use lib.ListN.{length-map}
use Rattle.std.specs.List.{find, range_with_len}
use Rattle.std.specs.Option.{option_map}
use Rattle.std.proofs.lemmas.Bool.{le-leb, eqb-false}
use Rattle.algebra.specs.Form.{other}
use Rattle.algebra.specs.declared.half.Half.{Half}
use Rattle.ticket.specs.Sizes.{degrees_of}
use Rattle.ticket.specs.WellFormed.{Content}
use Rattle.patch.specs.Box.{box_ends}
use Rattle.patch.specs.Corners.{rank, corner_of, lowest_broken}
use Rattle.patch.specs.FirstPatch.{turned}
use Rattle.patch.specs.Judging.{all_satisfy, corners, breaks, broken_corner}
use Rattle.patch.proofs.BoxCorners.{rank_of_corner, corners_are_numbered}
use Rattle.chooser.specs.Choice.{Meaning}
use Rattle.search.specs.Search.{Piece, level, is_clear, violation, may_halve, question_of, half_of, Outcome, settled, broken, too_deep, too_large, split, examine, judged, first_half, second_half}
use Rattle.search.proofs.Keeping.{void}
use Rattle.case.specs.Judgement.{found, judgement}
use Rattle.case.specs.declared.judgement.Judgement.TheVariants.{Clear, Broken, Deep, Undecided}

-- the halves are put waiting, the first above the other
abbrev pub halves : Content → Half → ℕ → Piece → Outcome
halves c first j x = split (half_of c first j x) (half_of c (other first) j x)

-- or the box is set aside, where its numbers may not grow
abbrev pub halves_or_aside : Bool → Content → Half → ℕ → Piece → Outcome
halves_or_aside true c first j x = halves c first j x
halves_or_aside false c first j x = too_large

-- ---- by the answers
broken_is_found : (v : Option (List Half)) (n : ℕ) (d : Bool) (a : ℕ × Half) → Some n ≡ option_map rank v → Broken n ≡ found false v d a
broken_is_found None n d a e = absurd (void (cc))
broken_is_found (Some es) n d a e = let q : n ≡ rank es = cc in ap Broken q

none_is_found : (v : Option (List Half)) → None ≡ option_map rank v → v ≡ None
none_is_found None e = refl
none_is_found (Some es) e = absurd (void (cc))

module _ (c : Content) (μ : Meaning) (depth : ℕ) (x : Piece) where
  pub clear_is_found : all_satisfy (turned c).relation x.patch ≡ true → Clear ≡ judgement c μ depth x
  unfolding is_clear
  clear_is_found e = sym (ap (λ b. found b (violation c x) (eqb (level x.box) depth) (μ (question_of c μ x))) e)

  module _ (few : length c.axes ≤ 4) (unclear : all_satisfy (turned c).relation x.patch ≡ false) (number : Option ℕ)
      (lowest : number ≡ lowest_broken (turned c).relation (degrees_of c.axes) (box_ends c.axes x.box) x.patch) where
    numbered : number ≡ option_map rank (violation c x)
    unfolding violation
    numbered = lowest ∙ ap (λ b. cond b (option_map rank (broken_corner (turned c).relation (degrees_of c.axes) (box_ends c.axes x.box) x.patch)) None) (le-leb (length (degrees_of c.axes)) 4 (omega (arith, length-map c.axes (λ a. a.degree))))

    still_unclear : is_clear c x ≡ false
    unfolding is_clear
    still_unclear = unclear

    pub violation_is_found : (n : ℕ) → number ≡ Some n → Broken n ≡ judgement c μ depth x
    violation_is_found n e =
        broken_is_found (violation c x) n (eqb (level x.box) depth) (μ (question_of c μ x)) (sym e ∙ numbered)
        ∙ sym (ap (λ b. found b (violation c x) (eqb (level x.box) depth) (μ (question_of c μ x))) still_unclear)

    module _ (none : number ≡ None) where
      by_depth : judgement c μ depth x ≡ found false None (eqb (level x.box) depth) (μ (question_of c μ x))
      by_depth =
          ap (λ b. found b (violation c x) (eqb (level x.box) depth) (μ (question_of c μ x))) still_unclear
          ∙ ap (λ v. found false v (eqb (level x.box) depth) (μ (question_of c μ x))) (none_is_found (violation c x) (sym none ∙ numbered))

      pub depth_is_found : eqb (level x.box) depth ≡ true → Deep ≡ judgement c μ depth x
      depth_is_found e = sym (by_depth ∙ ap (λ b. found false None b (μ (question_of c μ x))) e)

      pub choice_is_found : (a : ℕ × Half) → eqb (level x.box) depth ≡ false → a ≡ μ (question_of c μ x) → Undecided a.0 a.1 ≡ judgement c μ depth x
      choice_is_found a e q = sym (by_depth ∙ ap (λ b. found false None b (μ (question_of c μ x))) e ∙ ap (λ a. Undecided a.0 a.1) (sym q))

-- ---- a corner by its number
numbered_corner : (m : ℕ) (test : List Half → Bool) (from count n : ℕ) → from + count ≤ 2 ^ m → option_map rank (find test (map (corner_of m) (range_with_len from count))) ≡ Some n →
    find test (map (corner_of m) (range_with_len from count)) ≡ Some (corner_of m n)
numbered_corner m test from zero n l e = absurd (void (cc))
numbered_corner m test from (suc count) n l e = by_test (test (corner_of m from)) refl (λ q. numbered_corner m test (from + 1) count n (omega arith) q) e
  where
    by_test : (b : Bool) → test (corner_of m from) ≡ b → (option_map rank (find test (map (corner_of m) (range_with_len (from + 1) count))) ≡ Some n → find test (map (corner_of m) (range_with_len (from + 1) count)) ≡ Some (corner_of m n)) → option_map rank (cond b (Some (corner_of m from)) (find test (map (corner_of m) (range_with_len (from + 1) count)))) ≡ Some n →
        cond (test (corner_of m from)) (Some (corner_of m from)) (find test (map (corner_of m) (range_with_len (from + 1) count))) ≡ Some (corner_of m n)
    by_test true t later q =
        let r : from ≡ n = let z : rank (corner_of m from) ≡ n = cc in sym (rank_of_corner m from (omega arith)) ∙ z in
        ap (λ b. cond b (Some (corner_of m from)) (find test (map (corner_of m) (range_with_len (from + 1) count)))) t ∙ ap (λ i. Some (corner_of m i)) r
    by_test false t later q =
        ap (λ b. cond b (Some (corner_of m from)) (find test (map (corner_of m) (range_with_len (from + 1) count)))) t ∙ later q

violated_corner : (c : Content) (x : Piece) (n : ℕ) → option_map rank (violation c x) ≡ Some n → violation c x ≡ Some (corner_of (length c.axes) n)
unfolding violation
violated_corner c x n e =
    let ns : List ℕ = degrees_of c.axes in
    let test : List Half → Bool = breaks (turned c).relation ns (box_ends c.axes x.box) x.patch in
    let m : ℕ = length ns in
    let l = (corners_are_numbered m).listed in
    let f : find test (corners m) ≡ Some (corner_of m n) = ap (find test) l ∙ numbered_corner m test 0 (2 ^ m) n (omega arith) (ap (λ cs. option_map rank (find test cs)) (sym l) ∙ e) in
    f ∙ ap (λ k. Some (corner_of k n)) (length-map c.axes (λ a. a.degree))

-- ---- what examining comes to
module _ (c : Content) (limit : ℕ) (μ : Meaning) (depth : ℕ) (x : Piece) where
  by_answers : (clear : Bool) (v : Option (List Half)) (deep grows : Bool) → is_clear c x ≡ clear → violation c x ≡ v → eqb (level x.box) depth ≡ deep → may_halve c μ limit x ≡ grows →
      examine c limit μ depth x ≡ judged clear v deep grows (first_half c μ x) (second_half c μ x)
  by_answers clear v deep grows p q r s = rw (p, q, r, s)

  pub clear_is_settled : Clear ≡ judgement c μ depth x → examine c limit μ depth x ≡ settled
  clear_is_settled e = from (is_clear c x) (violation c x) (eqb (level x.box) depth) refl refl refl e
    where
      from : (clear : Bool) (v : Option (List Half)) (deep : Bool) → is_clear c x ≡ clear → violation c x ≡ v → eqb (level x.box) depth ≡ deep →
          Clear ≡ found clear v deep (μ (question_of c μ x)) → examine c limit μ depth x ≡ settled
      from true v deep p q r e = by_answers true v deep (may_halve c μ limit x) p q r refl
      from false (Some es) deep p q r e = absurd (void (cc))
      from false None true p q r e = absurd (void (cc))
      from false None false p q r e = absurd (void (cc))

  pub broken_is_violated : (n : ℕ) → Broken n ≡ judgement c μ depth x → examine c limit μ depth x ≡ broken (corner_of (length c.axes) n)
  broken_is_violated n e = from (is_clear c x) (violation c x) (eqb (level x.box) depth) refl refl refl e
    where
      from : (clear : Bool) (v : Option (List Half)) (deep : Bool) → is_clear c x ≡ clear → violation c x ≡ v → eqb (level x.box) depth ≡ deep →
          Broken n ≡ found clear v deep (μ (question_of c μ x)) → examine c limit μ depth x ≡ broken (corner_of (length c.axes) n)
      from true v deep p q r e = absurd (void (cc))
      from false (Some es) deep p q r e =
          let z : rank es ≡ n = cc in
          by_answers false (Some (corner_of (length c.axes) n)) deep (may_halve c μ limit x) p (violated_corner c x n (ap (option_map rank) q ∙ ap Some z)) r refl
      from false None true p q r e = absurd (void (cc))
      from false None false p q r e = absurd (void (cc))

  pub deep_is_set_aside : Deep ≡ judgement c μ depth x → examine c limit μ depth x ≡ too_deep
  deep_is_set_aside e = from (is_clear c x) (violation c x) (eqb (level x.box) depth) refl refl refl e
    where
      from : (clear : Bool) (v : Option (List Half)) (deep : Bool) → is_clear c x ≡ clear → violation c x ≡ v → eqb (level x.box) depth ≡ deep →
          Deep ≡ found clear v deep (μ (question_of c μ x)) → examine c limit μ depth x ≡ too_deep
      from true v deep p q r e = absurd (void (cc))
      from false (Some es) deep p q r e = absurd (void (cc))
      from false None true p q r e = by_answers false None true (may_halve c μ limit x) p q r refl
      from false None false p q r e = absurd (void (cc))

  pub record Chosen (j : ℕ) (h : Half) : Type 0 where
    pub shallow : level x.box ≡ depth → ⊥
    pub axis : j ≡ (μ (question_of c μ x)).0
    pub outcome : examine c limit μ depth x ≡ halves_or_aside (may_halve c μ limit x) c h j x

  pub undecided_is_chosen : (j : ℕ) (h : Half) → Undecided j h ≡ judgement c μ depth x → Chosen j h
  undecided_is_chosen j h e = from (is_clear c x) (violation c x) (eqb (level x.box) depth) refl refl refl e
    where
      by_growth : (grows : Bool) → may_halve c μ limit x ≡ grows → is_clear c x ≡ false → violation c x ≡ None → eqb (level x.box) depth ≡ false → j ≡ (μ (question_of c μ x)).0 → h ≡ (μ (question_of c μ x)).1 →
          examine c limit μ depth x ≡ halves_or_aside (may_halve c μ limit x) c h j x
      by_growth true s p q r a b = by_answers false None false true p q r s ∙ sym (ap (λ g. halves_or_aside g c h j x) s ∙ ap (λ i. halves c h i x) a ∙ ap (λ t. halves c t (μ (question_of c μ x)).0 x) b)
      by_growth false s p q r a b = by_answers false None false false p q r s ∙ sym (ap (λ g. halves_or_aside g c h j x) s)

      from : (clear : Bool) (v : Option (List Half)) (deep : Bool) → is_clear c x ≡ clear → violation c x ≡ v → eqb (level x.box) depth ≡ deep →
          Undecided j h ≡ found clear v deep (μ (question_of c μ x)) → Chosen j h
      from true v deep p q r e = absurd (void (cc))
      from false (Some es) deep p q r e = absurd (void (cc))
      from false None true p q r e = absurd (void (cc))
      from false None false p q r e =
          let a : j ≡ (μ (question_of c μ x)).0 = cc in
          let b : h ≡ (μ (question_of c μ x)).1 = cc in
          record { shallow = eqb-false (level x.box) depth r; axis = a; outcome = by_growth (may_halve c μ limit x) refl p q r a b }
