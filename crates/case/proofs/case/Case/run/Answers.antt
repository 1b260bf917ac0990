use Rattle.std.proofs.Common.{map, length, ap, arith}
use Rattle.search.proofs.Bounds.{steps_same_depth}
use Rattle.search.proofs.Replies.{run_examines}
use Rattle.search.specs.Courses.{ceiling}
use Rattle.case.specs.Model.{ticket_of, model}
use Rattle.case.proofs.Ran.{room_is_there, granted_reply, granted_next, granted_room}
use Rattle.case.proofs.Standing.{examined_within_ceiling}
use Rattle.case.proofs.case.Case.run.Goals as goal

pub examine_up_to-requires : goal.examine_up_to-requires
examine_up_to-requires g c =
    let k = c.args.self.now in
    let len = length c.args.work.now in
    let work = map g.K.Number.means c.args.work.now in
    room_is_there (ticket_of k) len k.depth (granted_room (ticket_of k) g.K.Number.limit (g.C.Chooser.meaning c.args.chooser.now) len c.args.n (model k work) (c.in_ok-check_run.ensures work))

pub returns : goal.returns
returns g c =
    let k = c.args.self.now in
    let t = ticket_of k in
    let limit = g.K.Number.limit in
    let μ = g.C.Chooser.meaning c.args.chooser.now in
    let len = length c.args.work.now in
    let s = model k (map g.K.Number.means c.args.work.now) in
    let granted = c.in_ok-check_run.ensures (map g.K.Number.means c.args.work.now) in
    let e = c.examine_up_to.ensures.steps in
    record {
      answer = granted_reply t limit μ len c.args.n s c.examine_up_to.result granted c.examine_up_to.ensures.count;
      next = granted_next t limit μ len c.args.n s _ granted e;
      bounds = omega (arith, examined_within_ceiling c.examine_up_to.new.self, ap (λ x. x.examined) e, ap (λ x. ceiling x.depth) e, ap ceiling (steps_same_depth t limit μ c.args.n s), run_examines t limit μ c.args.n s, c.examine_up_to.ensures.count);
      same = c.examine_up_to.ensures.same;
      chooses = c.examine_up_to.ensures.chooses;
    }
