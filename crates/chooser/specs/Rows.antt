-- How a patch lies along one axis: blocks of rows.
use Rattle.std.specs.Prelude.{◌≡◌, ℕ, suc, ◌+◌, ◌*◌, ◌/◌, ◌%◌, ◌<◌, Bool, ◌&&◌, List, ◌==◌, nat_lt}
use Rattle.algebra.specs.declared.sign.Sign.{Sign}
use Rattle.chooser.specs.BySigns.{negative_at, differ_at}
use Rattle.patch.specs.declared.shape.Shape.{Shape}

-- so many numbers lie in these rows
pub record Lie (shape : Shape) (count : ℕ) : Type 0 where
  pub all : shape.blocks * ((shape.degree + 1) * shape.stride) ≡ count
  pub some_blocks : 0 < shape.blocks
  pub some_stride : 0 < shape.stride

-- in which row of its block a place stands: its index along the axis
abbrev pub row_of : Shape → ℕ → ℕ
row_of shape i = i / shape.stride % suc shape.degree

-- the tests of a place that are counted: it has a next row and another sign there; it has this index, and is negative
abbrev pub changes_at : Shape → List Sign → ℕ → Bool
changes_at shape signs i = nat_lt (row_of shape i) shape.degree && differ_at signs shape.stride i

abbrev pub negative_in : Shape → ℕ → List Sign → ℕ → Bool
negative_in shape index signs i = row_of shape i == index && negative_at signs i
