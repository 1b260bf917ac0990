-- What a chooser of the axis is asked, and what it answers: the axis along which a box is halved, and the half to look at first.
use Rattle.std.specs.Prelude.{ℕ, ◌<◌, ◌≤◌, List, length}
use Rattle.algebra.specs.declared.half.Half.{Half}
use Rattle.algebra.specs.declared.sign.Sign.{Sign}

-- the degree of each axis, how often the box was halved along each, the sum of these halvings, and the signs of its patch
pub record Question : Type 0 where
  pub degrees : List ℕ
  pub halvings : List ℕ
  pub depth : ℕ
  pub signs : List Sign

-- a chooser's meaning: its answer to each question, and nothing else matters
abbrev pub Meaning : Type 0
Meaning = Question → ℕ × Half

-- wherever there is an axis, the answer is one of the axes
abbrev pub Picks : Meaning → Type 0
Picks μ = (q : Question) → 1 ≤ length q.degrees → (μ q).0 < length q.degrees
