use Rattle.std.proofs.Common.{◌≡◌, ℕ, suc, ◌+◌, ℤ, w64, to_z, of_z, ◌*◌, ◌^◌, ◌≤◌, ◌+ℤ◌, nat_abs, sym, ap, ◌∙◌, subst, le_trans, add-one, arith}
use Rattle.algebra.specs.Bernstein.{total}
use Rattle.algebra.specs.Module.{integers}
use Rattle.number.specs.Limits.{word}
use Rattle.ticket.specs.Sizes.{common, reach}
use Rattle.ticket.specs.declared.records.Axis.{Axis}
use Rattle.patch.specs.Conversion.{Convertible, summand_of}
use Rattle.patch.proofs.Bounds.{total_more, more_small, of_power_small}
use Rattle.patch.proofs.Words.{answer_is, sum_fits, sum_is}
use Rattle.patch.proofs.conversion.Power.converted.Goals as goal

-- one summand more
module _ (a : Axis) (e k m : ℕ) (known : Convertible a e) (asked : k ≤ a.degree) (l : m ≤ e) where
  abbrev f : ℕ → ℤ
  f = summand_of a e k

  small : nat_abs (total integers m f +ℤ f m) ≤ word
  small = le_trans (more_small a.lower a.upper e (common a.degree) a.degree k asked m (omega arith)) known.room

  next : {s x : ℤ} → s ≡ total integers m f → x ≡ f m → to_z w64 (of_z w64 (s +ℤ x)) ≡ total integers (m + 1) f
  next p q = sum_is p q small ∙ sym (total_more m f) ∙ ap (λ j. total integers j f) (sym (add-one m))

pub overflow_add-sum : goal.overflow_add-sum
overflow_add-sum c = sum_fits c.loop-m.invariant (answer_is c.summand-sum.type_inv c.summand-sum.ensures) (small c.args.self.axis c.args.self.exponent c.args.k c.loop-m.m c.args.self.convertible c.requires c.loop-m-test.true)

pub loop-m-preserved : goal.loop-m-preserved
loop-m-preserved c = next c.args.self.axis c.args.self.exponent c.args.k c.loop-m.m c.args.self.convertible c.requires c.loop-m-test.true c.loop-m.invariant (answer_is c.summand-sum.type_inv c.summand-sum.ensures)

pub returns : goal.returns
returns c = absurd (omega arith)

pub returns-2 : goal.returns-2
returns-2 c =
    let axis = c.args.self.axis in
    let e = c.args.self.exponent in
    let all : c.loop-m.m + 1 ≡ suc e = omega arith in
    let is = next axis e c.args.k c.loop-m.m c.args.self.convertible c.requires c.loop-m-test.true c.loop-m.invariant (answer_is c.summand-sum.type_inv c.summand-sum.ensures)
    ∙ ap (λ j. total integers j (summand_of axis e c.args.k)) all in
    record {
      is = is;
      small = subst (λ x. nat_abs x ≤ common axis.degree * reach axis ^ e) (sym is) (of_power_small axis.lower axis.upper e (common axis.degree) axis.degree c.args.k c.requires);
    }
