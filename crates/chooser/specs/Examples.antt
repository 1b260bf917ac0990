-- Choices worked out by hand, and computed by the definitions.
use Rattle.std.specs.Prelude.{◌≡◌, ℕ, List, [], ◌∷◌}
use Rattle.algebra.specs.declared.half.Half.{Half}
use Rattle.algebra.specs.declared.half.Half.TheVariants.{Lower, Upper}
use Rattle.algebra.specs.declared.sign.Sign.{Sign}
use Rattle.algebra.specs.declared.sign.Sign.TheVariants.{Negative, Zero, Positive}
use Rattle.chooser.specs.Choice.{Question}
use Rattle.chooser.specs.Alternating.{alternating}
use Rattle.chooser.specs.BySigns.{by_signs}
use Rattle.chooser.specs.Evening.{evening}

-- two axes of degrees 1 and 2, halved so often, with a patch of six numbers
abbrev two_axes : List ℕ → ℕ → List Sign → Question
two_axes halvings depth signs = record { degrees = 1 ∷ 2 ∷ []; halvings = halvings; depth = depth; signs = signs }

-- a chooser that always answers axis 0
abbrev first_axis : Half → Question → ℕ × Half
first_axis h q = (0, h)

pub record WorkedChoices : Type 0 where
  pub two_ahead : (h : Half) (d : ℕ) (signs : List Sign) → evening 2 (first_axis h) (two_axes (3 ∷ 1 ∷ []) d signs) ≡ (1, Lower)
  pub one_ahead : (h : Half) (d : ℕ) (signs : List Sign) → evening 2 (first_axis h) (two_axes (2 ∷ 1 ∷ []) d signs) ≡ (0, h)
  pub in_turn : alternating (two_axes (3 ∷ 2 ∷ []) 5 []) ≡ (1, Lower)
  -- rows + - - and + + +: two changes along axis 0, one along axis 1; both negative numbers have index 0 on axis 0
  pub across : by_signs (two_axes [] 0 (Positive ∷ Negative ∷ Negative ∷ Positive ∷ Positive ∷ Positive ∷ [])) ≡ (0, Lower)
  -- rows + 0 - and + 0 -: no change along axis 0, four along axis 1; both negative numbers have index 2 on axis 1
  pub along : by_signs (two_axes [] 0 (Positive ∷ Zero ∷ Negative ∷ Positive ∷ Zero ∷ Negative ∷ [])) ≡ (1, Upper)
  -- no change along any axis: the lowest
  pub flat : by_signs (two_axes [] 0 (Zero ∷ Zero ∷ Zero ∷ Zero ∷ Zero ∷ Zero ∷ [])) ≡ (0, Lower)
  -- five signs are no patch of six numbers
  pub odd : by_signs (two_axes [] 0 (Positive ∷ Zero ∷ Negative ∷ Positive ∷ Zero ∷ [])) ≡ (0, Lower)
