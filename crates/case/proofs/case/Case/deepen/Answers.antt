use Rattle.std.proofs.Common.{map, length, ◌∙◌}
use Rattle.std.proofs.lemmas.Result.{IfOk-at_ok}
use Rattle.patch.specs.FirstPatch.{Begun}
use Rattle.case.specs.Model.{ticket_of, model}
use Rattle.case.proofs.Deepened.{deepened_within_24, is_begun_anew, deepened_next, first_patch_is_begun}
use Rattle.case.proofs.case.Case.deepen.Goals as goal

pub unwrap-requires : goal.unwrap-requires
unwrap-requires g c =
    let k = c.args.self.now in
    let work = map g.K.Number.means c.args.work.now in
    is_begun_anew (ticket_of k) (length c.args.work.now) c.args.depth (model k work) (c.in_ok-check_deepen.ensures work) g.K.Number.drifts c.write_first_patch.result c.write_first_patch.ensures.answer k.carried

pub restart-requires : goal.restart-requires
restart-requires g c =
    let k = c.args.self.now in
    let work = map g.K.Number.means c.args.work.now in
    deepened_within_24 (ticket_of k) (length c.args.work.now) c.args.depth (model k work) (c.in_ok-check_deepen.ensures work)

pub returns-clause-next : goal.returns-clause-next
returns-clause-next g c =
    let k = c.args.self.now in
    let f = g.K.Number.means in
    let old = c.args.work.now in
    let new = c.write_first_patch.new.work in
    let begun = IfOk-at_ok (λ _. Begun f (ticket_of k) old new) c.unwrap.ensures c.write_first_patch.ensures.begun in
    λ μ. c.restart.ensures.starts (map f new) (first_patch_is_begun f (ticket_of k) k.size old new k.sized begun)
    ∙ deepened_next (ticket_of k) (length old) c.args.depth (model k (map f old)) (c.in_ok-check_deepen.ensures (map f old)) g.K.Number.limit μ
