-- What the layer answers, and what the first best of the choosers is.
use Rattle.std.proofs.Common.{◌≡◌, ℕ, ◌+◌, ◌<◌, ◌≤◌, Bool, true, false, cond, leb, refl, ap, arith, ltb-false, ltb-true, leb-false, leb-true}
use borrow.Author.Tests.{lt-leb}
use Rattle.std.proofs.lemmas.Bool.{and_parts}
use Rattle.algebra.specs.declared.half.Half.{Half}
use Rattle.algebra.specs.declared.half.Half.TheVariants.{Lower}
use Rattle.chooser.specs.Choice.{Question}
use Rattle.chooser.specs.BySigns.{changes, most_changed}
use Rattle.chooser.specs.Evening.{halved, least_halved}
use Rattle.chooser.specs.Laws.{LeastHalvedIsFirst, EveningKeepsClose, CloseAnswerStands, MostChangedIsFirst}
use Rattle.chooser.specs.Picking.{first_least, first_most}

pub least_halved_is_first : LeastHalvedIsFirst
least_halved_is_first q k l =
    let f = first_least q (omega arith) in
    (ltb-false (halved q k) (halved q (least_halved q)) (f.unbeaten k l), λ h. ltb-true (halved q (least_halved q)) (halved q k) (f.lowest k h))

pub most_changed_is_first : MostChangedIsFirst
most_changed_is_first ns signs k l =
    let f = first_most ns signs (omega arith) in
    let c : ℕ → ℕ = changes ns signs in
    (ltb-false (c (most_changed ns signs)) (c k) (f.unbeaten k l), λ h. ltb-true (c k) (c (most_changed ns signs)) (f.lowest k h))

-- by whether the axis a from below is a gap or more ahead
close : (q : Question) (gap : ℕ) (a : ℕ × Half) (t : Bool) → leb (halved q (least_halved q) + gap) (halved q a.0) ≡ t → 1 ≤ gap →
    halved q (cond t (least_halved q, Lower) a).0 < halved q (least_halved q) + gap
close q gap a true e l = omega arith
close q gap a false e l = leb-false (halved q (least_halved q) + gap) (halved q a.0) e

pub evening_keeps_close : EveningKeepsClose
evening_keeps_close gap below q g =
    let some : 1 ≤ gap = leb-true 1 gap (and_parts (leb 1 gap) (leb gap 24) g).0 in
    close q gap (below q) (leb (halved q (least_halved q) + gap) (halved q (below q).0)) refl some

pub close_answer_stands : CloseAnswerStands
close_answer_stands gap below q l = ap (λ t. cond t (least_halved q, Lower) (below q)) (lt-leb (halved q (least_halved q) + gap) (halved q (below q).0) l)
