-- The operations of a module over the whole numbers. Its laws stand in proofs/Module.antt: a statement needs the operations alone.
use Rattle.std.specs.Prelude.{ℕ, zero, suc, ℤ, pos, ◌+ℤ◌, ◌*ℤ◌}

abbrev pub pow : ℤ → ℕ → ℤ
pow x zero = pos 1
pow x (suc n) = x *ℤ pow x n

pub record Ops (V : Type 0) : Type 0 where
  pub nought : V
  pub plus : V → V → V
  pub times : ℤ → V → V

abbrev pub integers : Ops ℤ
integers = record { nought = pos 0; plus = λ x y. x +ℤ y; times = λ x y. x *ℤ y }
