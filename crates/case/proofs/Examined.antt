-- One box of a case is examined: a step of its search.
use Rattle.std.proofs.Common.{◌≡◌, ℕ, suc, ◌+◌, ◌-◌, ◌*◌, ◌<◌, ◌≤◌, Bool, true, false, ◌&&◌, leb, List, [], map, length, get_or, take, drop, Some, slice_get, sym, ap, ◌∙◌, subst, ap₂, mul-le-mul_right, suc-mul, arith}
use lib.Arith.{lt_of_le-ne}
use lib.ListN.{length-map}
use Rattle.std.proofs.lemmas.Bool.{le-leb, lt-ltb}
use Rattle.algebra.specs.Pair.{Pair}
use Rattle.algebra.specs.Layout.{numbers}
use Rattle.algebra.specs.declared.half.Half.{Half}
use Rattle.number.specs.declared.number.Number.{Ghosts}
use Rattle.ticket.specs.Sizes.{rest, degrees_of}
use Rattle.patch.specs.Corners.{corner_of}
use Rattle.patch.specs.Halving.{part, Halved, may_halve}
use Rattle.patch.specs.Judging.{all_grow}
use Rattle.chooser.specs.Choice.{Meaning, Picks}
use Rattle.search.specs.Search.{Piece, level, Search, Outcome, settled, broken, too_deep, too_large, counted, after, examine, step_over, step, may_halve as may_be_halved}
use Rattle.search.proofs.Pieces.{axis_is_there}
use Rattle.case.specs.Records.{box_of}
use Rattle.case.specs.Held.{newest_halved}
use Rattle.case.specs.Judgement.{judgement}
use Rattle.case.specs.Model.{ticket_of, piece_in, pieces, corner_in, model, piece_of}
use Rattle.case.specs.declared.record.Record.{Record}
use Rattle.case.specs.declared.case.Case.{Case}
use Rattle.case.specs.declared.judgement.Judgement.{Judgement}
use Rattle.case.specs.declared.judgement.Judgement.TheVariants.{Clear, Broken, Deep, Undecided}
use Rattle.case.proofs.Pieces.{part_map, SideBySide, stand_side_by_side, halves_stand_first}
use Rattle.case.proofs.Standing.{axes, one_and_older, shallow, fewer_older_than_halvings}
use Rattle.case.proofs.Found.{halves, halves_or_aside, clear_is_settled, broken_is_violated, deep_is_set_aside, Chosen, undecided_is_chosen}

-- what halving in the workspace asks comes to the growth of the patch
only_growth_is_asked : (limit : ℕ) (ns : List ℕ) (j start size : ℕ) (work : List Pair) → j < length ns → size ≡ numbers ns → start + (size + size) ≤ length work →
    may_halve limit ns j start work ≡ all_grow limit (get_or ns j 0) (part start size work)
only_growth_is_asked limit ns j start size work l e h =
    ap (λ b. b && (leb (start + (numbers ns + numbers ns)) (length work) && all_grow limit (get_or ns j 0) (part start (numbers ns) work))) (lt-ltb j (length ns) l)
    ∙ ap (λ b. b && all_grow limit (get_or ns j 0) (part start (numbers ns) work)) (le-leb (start + (numbers ns + numbers ns)) (length work) (omega arith))
    ∙ ap (λ n. all_grow limit (get_or ns j 0) (part start n work)) (sym e)

-- the box r is the newest of n
module _ {K : Type 0} {N : Ghosts K} (k : Case K N) (r : Record) (on_top : slice_get k.waiting 0 ≡ Some r) (n : ℕ) (count : n ≡ length k.waiting) where
  slot_of_newest : n - 1 ≡ length (rest k.waiting)
  slot_of_newest = omega (arith, ap length (one_and_older k r on_top))

  -- there is room for its halves
  pub newest_ends_within : (len : ℕ) → (k.depth + 3) * k.size ≤ len → (n - 1) * k.size + (k.size + k.size) ≤ len
  newest_ends_within len h =
      let l : suc (suc (n - 1)) ≤ k.depth + 3 = omega (arith, slot_of_newest, fewer_older_than_halvings k r on_top, shallow k r on_top) in
      omega (arith, mul-le-mul_right k.size l, suc-mul (suc (n - 1)) k.size, suc-mul (n - 1) k.size)

  module _ (limit : ℕ) (μ : Meaning) (f : K → Pair) (work : List K) where
    abbrev s : Search
    s = model k (map f work)

    abbrev newest : Piece
    newest = piece_in (axes k) k.size r (length (rest k.waiting)) (map f work)

    stepped : (o : Outcome) → examine (ticket_of k) limit μ k.depth newest ≡ o → after (ticket_of k) s newest (pieces (axes k) k.size (rest k.waiting) (map f work)) o ≡ step (ticket_of k) limit μ s
    stepped o e =
        ap (after (ticket_of k) s newest (pieces (axes k) k.size (rest k.waiting) (map f work))) (sym e)
        ∙ ap (λ rs. step_over (ticket_of k) limit μ s (pieces (axes k) k.size rs (map f work))) (sym (one_and_older k r on_top))

    -- judged by the patch that is lent
    abbrev lent : Piece
    lent = piece_of (ticket_of k) r (map f (take ((n - 1) * k.size + k.size - (n - 1) * k.size) (drop ((n - 1) * k.size) work)))

    lent_is_newest : lent ≡ newest
    lent_is_newest =
        let z : (n - 1) * k.size + k.size - (n - 1) * k.size ≡ k.size = omega arith in
        ap (piece_of (ticket_of k) r)
        (ap (λ i. map f (take i (drop ((n - 1) * k.size) work))) z ∙ sym (part_map f ((n - 1) * k.size) k.size work) ∙ ap (λ i. part (i * k.size) k.size (map f work)) slot_of_newest)

    of_newest : (J : Judgement) → J ≡ judgement (ticket_of k) μ k.depth lent → J ≡ judgement (ticket_of k) μ k.depth newest
    of_newest J e = e ∙ ap (judgement (ticket_of k) μ k.depth) lent_is_newest

    module _ (rs : List Record) where
      pub clear_steps : Clear ≡ judgement (ticket_of k) μ k.depth lent → rs ≡ rest k.waiting → counted s (pieces (axes k) k.size rs (map f work)) k.aside_depth k.aside_range s.corner ≡ step (ticket_of k) limit μ s
      clear_steps j e =
          ap (λ xs. counted s (pieces (axes k) k.size xs (map f work)) k.aside_depth k.aside_range s.corner) e
          ∙ stepped settled (clear_is_settled (ticket_of k) limit μ k.depth newest (of_newest Clear j))

      pub broken_steps : (i : ℕ) → Broken i ≡ judgement (ticket_of k) μ k.depth lent → rs ≡ [] →
          counted s (pieces (axes k) k.size rs (map f work)) k.aside_depth k.aside_range (corner_in (ticket_of k).axes r (Some i)) ≡ step (ticket_of k) limit μ s
      broken_steps i j e =
          ap (λ xs. counted s (pieces (axes k) k.size xs (map f work)) k.aside_depth k.aside_range (corner_in (ticket_of k).axes r (Some i))) e
          ∙ stepped (broken (corner_of (axes k) i)) (broken_is_violated (ticket_of k) limit μ k.depth newest i (of_newest (Broken i) j))

      pub deep_steps : Deep ≡ judgement (ticket_of k) μ k.depth lent → rs ≡ rest k.waiting → counted s (pieces (axes k) k.size rs (map f work)) (k.aside_depth + 1) k.aside_range s.corner ≡ step (ticket_of k) limit μ s
      deep_steps j e =
          ap (λ xs. counted s (pieces (axes k) k.size xs (map f work)) (k.aside_depth + 1) k.aside_range s.corner) e
          ∙ stepped too_deep (deep_is_set_aside (ticket_of k) limit μ k.depth newest (of_newest Deep j))

    -- to be halved along one of the axes that are lent
    module _ (axis : ℕ) (first : Half) (j : Undecided axis first ≡ judgement (ticket_of k) μ k.depth lent) where
      chosen : Chosen (ticket_of k) limit μ k.depth newest axis first
      chosen = undecided_is_chosen (ticket_of k) limit μ k.depth newest axis first (of_newest (Undecided axis first) j)

      pub still_shallow : level (box_of (axes k) r) < k.depth
      still_shallow = lt_of_le-ne (shallow k r on_top) chosen.shallow

      module _ (picks : Picks μ) where
        pub axis_inside : axis < axes k
        axis_inside = subst (λ i. i < axes k) (sym chosen.axis) (axis_is_there (ticket_of k) μ k.ticket.ticket.formed picks newest)

        module _ (degrees : List ℕ) (lent : degrees ≡ k.degrees.items) (room : (k.depth + 3) * k.size ≤ length work) where
          abbrev ns : List ℕ
          ns = degrees_of (ticket_of k).axes

          same_growth : may_halve limit degrees axis ((n - 1) * k.size) (map f work) ≡ may_be_halved (ticket_of k) μ limit newest
          unfolding may_be_halved
          same_growth =
              ap (λ ns. may_halve limit ns axis ((n - 1) * k.size) (map f work)) (lent ∙ k.shaped)
              ∙ only_growth_is_asked limit ns axis ((n - 1) * k.size) k.size (map f work) (omega (arith, axis_inside, length-map (ticket_of k).axes (λ a. a.degree))) k.sized
              (omega (arith, newest_ends_within (length work) room, length-map work f))
              ∙ ap₂ (λ i m. all_grow limit (get_or ns i 0) (part (m * k.size) k.size (map f work))) chosen.axis slot_of_newest

          by_growth : (grows : Bool) → may_halve limit degrees axis ((n - 1) * k.size) (map f work) ≡ grows → examine (ticket_of k) limit μ k.depth newest ≡ halves_or_aside grows (ticket_of k) first axis newest
          by_growth grows g = chosen.outcome ∙ ap (λ b. halves_or_aside b (ticket_of k) first axis newest) (sym same_growth ∙ g)

          pub too_large_steps : (rs : List Record) → may_halve limit degrees axis ((n - 1) * k.size) (map f work) ≡ false → rs ≡ rest k.waiting →
              counted s (pieces (axes k) k.size rs (map f work)) k.aside_depth (k.aside_range + 1) s.corner ≡ step (ticket_of k) limit μ s
          too_large_steps rs g e =
              ap (λ xs. counted s (pieces (axes k) k.size xs (map f work)) k.aside_depth (k.aside_range + 1) s.corner) e ∙ stepped too_large (by_growth false g)

          pub split_steps : (rs : List Record) (new : List Pair) → may_halve limit degrees axis ((n - 1) * k.size) (map f work) ≡ true →
              Halved first degrees axis ((n - 1) * k.size) (map f work) new → rs ≡ newest_halved first axis k.waiting →
              counted s (pieces (axes k) k.size rs new) k.aside_depth k.aside_range s.corner ≡ step (ticket_of k) limit μ s
          split_steps rs new g h e =
              ap (λ xs. counted s (pieces (axes k) k.size xs new) k.aside_depth k.aside_range s.corner) (e ∙ ap (newest_halved first axis) (one_and_older k r on_top))
              ∙ ap (λ xs. counted s xs k.aside_depth k.aside_range s.corner)
              (halves_stand_first (ticket_of k) (axes k) k.size r (rest k.waiting) axis first (map f work) new side)
              ∙ stepped (halves (ticket_of k) first axis newest) (by_growth true g)
            where
              side : SideBySide ns axis first (length (rest k.waiting) * k.size) k.size (map f work) new
              side =
                  stand_side_by_side first ns axis (length (rest k.waiting) * k.size) k.size (map f work) new k.sized
                  (subst (λ m. Halved first ns axis (m * k.size) (map f work) new) slot_of_newest (subst (λ ns. Halved first ns axis ((n - 1) * k.size) (map f work) new) (lent ∙ k.shaped) h))
