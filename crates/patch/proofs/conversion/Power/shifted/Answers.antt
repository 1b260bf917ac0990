use Rattle.std.proofs.Common.{◌≡◌, ℕ, ◌-◌, ◌^◌, ◌≤◌, ℤ, pos, ◌-ℤ◌, ◌*ℤ◌, nat_abs, sym, ◌∙◌, subst, le_trans, le-mul_of_pos_right, mul_comm, arith, w64, to_z, of_z, SFits, rules}
use Rattle.std.specs.Int.{int_pow}
use Rattle.algebra.specs.Bernstein.{choose}
use Rattle.algebra.specs.Module.{pow}
use Rattle.number.specs.Limits.{word}
use Rattle.ticket.specs.Sizes.{common, reach}
use Rattle.ticket.specs.declared.records.Axis.{Axis}
use Rattle.patch.specs.Conversion.{Convertible, shifted_of}
use Rattle.patch.proofs.Box.{common_positive}
use Rattle.patch.proofs.Bounds.{smaller_power, powers_small, part_small, nat_abs_pow}
use Rattle.patch.proofs.Powers.{pow_is}
use Rattle.patch.proofs.Words.{fits_word, answer_is, widened_is, product_fits, product_is}
use Rattle.patch.proofs.conversion.Power.shifted.Goals as goal

-- the common multiple is at least 1
room : {a : Axis} {e : ℕ} → Convertible a e → reach a ^ e ≤ word
room {a} {e} k = le_trans (omega (arith, le-mul_of_pos_right (reach a ^ e) (common_positive a.degree k.degree), mul_comm (reach a ^ e) (common a.degree))) k.room

module _ {x z : ℤ} {n e : ℕ} (h : x ≡ z) (k : n ≡ e) where
  power_is : int_pow x n ≡ pow z e
  power_is = pow_is x n ∙ (λ i. pow (h i) (k i))

  power_fits : nat_abs z ^ e ≤ word → SFits w64 (int_pow x n)
  power_fits room = subst (SFits w64) (sym power_is) (fits_word (pow z e) (omega (arith, nat_abs_pow z e)))

pub pow-requires : goal.pow-requires
pow-requires c =
    let axis = c.args.self.axis in
    power_fits (answer_is c.width.type_inv c.width.ensures) c.from.ensures
    (smaller_power (nat_abs (axis.upper -ℤ axis.lower)) (reach axis) c.args.m c.args.self.exponent (omega arith) c.requires (room c.args.self.convertible))

pub pow-requires-2 : goal.pow-requires-2
pow-requires-2 c =
    let axis = c.args.self.axis in
    let e = c.args.self.exponent in
    power_fits (widened_is axis.lower c.from-lower.type_inv (search rules) c.from-lower.ensures) c.from-2.ensures
    (smaller_power (nat_abs axis.lower) (reach axis) (e - c.args.m) e (omega arith) (omega arith) (room c.args.self.convertible))

-- the parts of the coefficient, each as it was answered
module _ (a : Axis) (e m : ℕ) (known : Convertible a e) (l : m ≤ e) {x y : ℤ} (first : x ≡ pow (a.upper -ℤ a.lower) m) (second : y ≡ pow a.lower (e - m)) where
  small : nat_abs (pow (a.upper -ℤ a.lower) m *ℤ pow a.lower (e - m)) ≤ word
  small = le_trans (powers_small a.lower a.upper e m l) (room known)

  ends_fit : SFits w64 (x *ℤ y)
  ends_fit = product_fits first second small

  module _ {z : ℤ} (third : z ≡ pos (choose e m)) where
    shifted_fits : SFits w64 (z *ℤ to_z w64 (of_z w64 (x *ℤ y)))
    shifted_fits = product_fits third (product_is first second small) (le_trans (part_small a.lower a.upper e m l) (room known))

    shifted_is : to_z w64 (of_z w64 (z *ℤ to_z w64 (of_z w64 (x *ℤ y)))) ≡ shifted_of a e m
    shifted_is = product_is third (product_is first second small) (le_trans (part_small a.lower a.upper e m l) (room known))

module _ (c : goal.After-pow-2) where
  first_is : to_z w64 (of_z w64 c.pow.result) ≡ pow (c.args.self.axis.upper -ℤ c.args.self.axis.lower) c.args.m
  first_is = answer_is c.pow.type_inv (c.pow.ensures ∙ power_is (answer_is c.width.type_inv c.width.ensures) c.from.ensures)

  second_is : to_z w64 (of_z w64 c.pow-2.result) ≡ pow c.args.self.axis.lower (c.args.self.exponent - c.args.m)
  second_is = answer_is c.pow-2.type_inv (c.pow-2.ensures ∙ power_is (widened_is c.args.self.axis.lower c.from-lower.type_inv (search rules) c.from-lower.ensures) c.from-2.ensures)

pub overflow_mul-result : goal.overflow_mul-result
overflow_mul-result c = ends_fit c.args.self.axis c.args.self.exponent c.args.m c.args.self.convertible c.requires (first_is c) (second_is c)

pub overflow_mul-result-2 : goal.overflow_mul-result-2
overflow_mul-result-2 c = shifted_fits c.args.self.axis c.args.self.exponent c.args.m c.args.self.convertible c.requires (first_is c) (second_is c) (answer_is c.binomial.type_inv c.binomial.ensures)

pub returns : goal.returns
returns c = shifted_is c.args.self.axis c.args.self.exponent c.args.m c.args.self.convertible c.requires (first_is c) (second_is c) (answer_is c.binomial.type_inv c.binomial.ensures)
