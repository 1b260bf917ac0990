use Rattle.std.proofs.Common.{◌≡◌, ◌-◌, ◌<◌, ◌≤◌, ◌∷◌, length, get_or, set, ap, ◌∙◌, ap₂, rules, arith}
use Rattle.algebra.specs.Form.{other}
use Rattle.patch.specs.Box.{half_box}
use Rattle.case.specs.Held.{newest_first, newest_halved}
use Rattle.case.proofs.Newest.{as_many_newest, top_halves}
use Rattle.case.proofs.waiting.Waiting.halve_top.Goals as goal

pub push-requires : goal.push-requires
push-requires c =
    let w = c.self.inside in
    omega (arith, ap length c.self.view_is, as_many_newest w.len w.records, as_many_newest w.len (set w.records (w.len - 1) c.half.result))

pub returns : goal.returns
returns c =
    let w = c.self.inside in
    let some : 0 < w.len = omega (arith, ap length c.self.view_is, as_many_newest w.len w.records) in
    let within : w.len ≤ length w.records = search rules in
    let r = get_or w.records (w.len - 1) c.index-self-self.result in
    let second : c.half.result ≡ half_box (other c.args.first) c.args.axis r = search rules in
    c.push.ensures ∙ ap₂ (λ x y. x ∷ newest_first w.len (set w.records (w.len - 1) y)) c.half-2.ensures second
    ∙ top_halves w.len w.records c.index-self-self.result c.args.first c.args.axis some within ∙ ap (newest_halved c.args.first c.args.axis) c.self.view_is
