use Rattle.std.proofs.Common.{◌≡◌, ◌+◌, ◌-◌, ◌*◌, ◌≤◌, map, length, sym, ap, ◌∙◌, subst, ap₂, arith}
use Rattle.ticket.specs.Sizes.{patch_count}
use Rattle.search.specs.Search.{step, steps}
use Rattle.search.proofs.Steps.{idle_steps}
use Rattle.case.specs.Model.{ticket_of, model}
use Rattle.case.proofs.Newest.{waits_unless_empty, none_if_empty}
use Rattle.case.proofs.Ran.{none_waits, one_step_more, as_many_examined, step_keeps_depth, step_counts}
use Rattle.case.proofs.case.Case.examine_up_to.Goals as goal

pub returns-then-is_empty : goal.returns-then-is_empty
returns-then-is_empty g c =
    let t = ticket_of c.args.self.now in
    let limit = g.K.Number.limit in
    let μ = g.C.Chooser.meaning c.args.chooser.now in
    let f = g.K.Number.means in
    let k = c.loop-done.self in
    let now = model k (map f c.loop-done.work) in
    let then : now ≡ steps t limit μ c.args.n (model c.args.self.now (map f c.args.work.now)) =
    sym (idle_steps t limit μ (c.args.n - c.loop-done.done) now (none_waits k (map f c.loop-done.work) (none_if_empty _ _ c.is_empty.ensures c.if-is_empty.true))) ∙ c.loop-done.invariant.0 in
    record {
      count = as_many_examined t limit μ c.args.n c.loop-done.done (model c.args.self.now (map f c.args.work.now)) now then c.loop-done.invariant.3;
      steps = then;
      same = c.loop-done.invariant.1;
      chooses = c.loop-done.invariant.2;
    }

pub loop-done-preserved : goal.loop-done-preserved
loop-done-preserved g c =
    let t = ticket_of c.args.self.now in
    let limit = g.K.Number.limit in
    let μ = g.C.Chooser.meaning c.args.chooser.now in
    let f = g.K.Number.means in
    let k = c.loop-done.self in
    let before = model k (map f c.loop-done.work) in
    let after = model c.examine.new.self (map f c.examine.new.work) in
    let stepped : after ≡ step t limit μ before = c.examine.ensures.steps ∙ ap₂ (λ t μ. step t limit μ before) c.loop-done.invariant.1 c.loop-done.invariant.2 in
    let waits = waits_unless_empty _ _ c.is_empty.ensures c.if-is_empty.false in
    let examined : c.examine.new.self.examined ≡ k.examined + 1 = ap (λ s. s.examined) stepped ∙ step_counts t limit μ k (map f c.loop-done.work) waits in
    let deep : c.examine.new.self.depth ≡ k.depth = step_keeps_depth t limit μ before after stepped in (
      one_step_more t limit μ c.args.n c.loop-done.done before after c.loop-done-test.true stepped ∙ c.loop-done.invariant.0,
      c.examine.ensures.same ∙ c.loop-done.invariant.1,
      c.examine.ensures.chooses ∙ c.loop-done.invariant.2,
      omega (arith, c.loop-done.invariant.3),
      omega (arith, c.loop-done-test.true),
      subst (λ d. (d + 3) * patch_count t.axes ≤ length c.examine.new.work) (sym deep) (omega (arith, c.loop-done.invariant.5, c.examine.auto.work)),
    )

pub returns : goal.returns
returns g c =
    let t = ticket_of c.args.self.now in
    let limit = g.K.Number.limit in
    let μ = g.C.Chooser.meaning c.args.chooser.now in
    let f = g.K.Number.means in
    let now = model c.loop-done.self (map f c.loop-done.work) in
    let all : c.loop-done.done ≡ c.args.n = omega (arith, c.loop-done-test.false, c.loop-done.auto.done-end) in
    let z : 0 ≡ c.args.n - c.loop-done.done = omega arith in
    let then : now ≡ steps t limit μ c.args.n (model c.args.self.now (map f c.args.work.now)) = ap (λ n. steps t limit μ n now) z ∙ c.loop-done.invariant.0 in
    record {
      count = sym all ∙ as_many_examined t limit μ c.args.n c.loop-done.done (model c.args.self.now (map f c.args.work.now)) now then c.loop-done.invariant.3;
      steps = then;
      same = c.loop-done.invariant.1;
      chooses = c.loop-done.invariant.2;
    }
