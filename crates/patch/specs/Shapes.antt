-- How many numbers a patch has, and its shape along an axis, where a machine word can hold that.
use Rattle.std.specs.Prelude.{ℕ, ◌^◌, ◌&&◌, List, length, take, Option, nat_lt, slice_index}
use Rattle.std.specs.Bool.{then_some}
use Rattle.algebra.specs.Layout.{numbers, stride}
use Rattle.patch.specs.declared.shape.Shape.{Shape}

abbrev pub counted : List ℕ → Option ℕ
counted ns = then_some (nat_lt (numbers ns) (2 ^ 64)) (numbers ns)

abbrev pub shape_of : List ℕ → ℕ → Shape
shape_of ns j = record { blocks = numbers (take j ns); degree = slice_index ns j; stride = stride ns j; size = numbers ns }

-- none if there is no such axis
abbrev pub shaped : List ℕ → ℕ → Option Shape
shaped ns j = then_some (nat_lt j (length ns) && nat_lt (numbers ns) (2 ^ 64)) (shape_of ns j)
