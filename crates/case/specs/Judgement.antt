-- What is found out about a box before its numbers are asked to grow.
use Rattle.std.specs.Prelude.{ℕ, Bool, true, false, List, Some, None, Option, ◌==◌}
use Rattle.algebra.specs.Pair.{Pair}
use Rattle.algebra.specs.declared.half.Half.{Half}
use Rattle.ticket.specs.WellFormed.{Content}
use Rattle.patch.specs.Corners.{rank}
use Rattle.patch.specs.Judging.{signs}
use Rattle.chooser.specs.Choice.{Question, Meaning}
use Rattle.search.specs.Search.{Piece, level, is_clear, violation, question_of}
use Rattle.case.specs.declared.judgement.Judgement.{Judgement}
use Rattle.case.specs.declared.judgement.Judgement.TheVariants.{Clear, Broken, Deep, Undecided}

-- the order of the questions: is it clear, does a corner violate the relation, is it as deep as may be, which axis and half
abbrev pub found : Bool → Option (List Half) → Bool → ℕ × Half → Judgement
found true corner deep choice = Clear
found false (Some es) deep choice = Broken (rank es)
found false None true choice = Deep
found false None false choice = Undecided choice.0 choice.1

-- what the chooser is told of a patch
abbrev pub told : List ℕ → List ℕ → ℕ → List Pair → Question
told degrees halvings depth patch = record { degrees = degrees; halvings = halvings; depth = depth; signs = signs patch }

abbrev pub judgement : Content → Meaning → ℕ → Piece → Judgement
judgement c μ depth x = found (is_clear c x) (violation c x) (level x.box == depth) (μ (question_of c μ x))
