use Rattle.std.proofs.Common.{◌<◌, get_or, length, ap, ◌∙◌, arith, rules}
use Rattle.algebra.specs.Form.{end_index}
use Rattle.patch.specs.Corners.{corner_of}
use Rattle.patch.proofs.BoxCorners.{place_more, place_all, place_small, place_fits}
use Rattle.patch.proofs.corners.Asked.place.Goals as goal

pub overflow_mul-place : goal.overflow_mul-place
overflow_mul-place g c =
    let d : get_or c.args.self.now.degrees.now c.loop-axis.axis 0 < 256 = search rules in
    let n : c.from-n.result < 256 = omega arith in
    let s = place_small c.loop-axis.place c.from-n.result 0 c.loop-axis.axis c.loop-axis.invariant.1 n (omega arith) in
    record { fits = omega (arith, place_fits _ _ s (omega (arith, c.args.self.now.few))) }

pub overflow_add-place-in-loop-axis : goal.overflow_add-place-in-loop-axis
overflow_add-place-in-loop-axis g c =
    let d : get_or c.args.self.now.degrees.now c.loop-axis.axis 0 < 256 = search rules in
    let n : c.from-n.result < 256 = omega arith in
    let s = place_small c.loop-axis.place c.from-n.result c.index.result c.loop-axis.axis c.loop-axis.invariant.1 n c.index.ensures.1 in
    record { fits = omega (arith, place_fits _ _ s (omega (arith, c.args.self.now.few))) }

pub loop-axis-preserved : goal.loop-axis-preserved
loop-axis-preserved g c =
    let ns = c.args.self.now.degrees.now in
    let d : get_or ns c.loop-axis.axis 0 < 256 = search rules in
    let n : c.from-n.result < 256 = omega arith in (
      place_more ns c.args.corner c.loop-axis.axis c.loop-axis.place c.index.result c.from-n.result _ c.loop-axis-test.true c.from-n.ensures c.loop-axis.invariant.0
          (c.index.ensures.0 ∙ ap (λ h. end_index h c.from-n.result) c.end.ensures),
      place_small c.loop-axis.place c.from-n.result c.index.result c.loop-axis.axis c.loop-axis.invariant.1 n c.index.ensures.1,
    )

pub returns : goal.returns
returns g c =
    let ns = c.args.self.now.degrees.now in
    place_all ns (corner_of (length ns) c.args.corner) c.loop-axis.axis c.loop-axis.place _ c.loop-axis-test.false c.loop-axis.invariant.0
