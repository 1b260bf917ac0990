use Rattle.std.proofs.Common.{map, length, ◌∙◌, ap, arith}
use Rattle.std.proofs.lemmas.List.{get_or_default}
use Rattle.patch.specs.Box.{entire, coordinates}
use Rattle.patch.specs.Corners.{corner_of}
use Rattle.search.specs.Points.{means}
use Rattle.case.proofs.Corner.{point_so_far, whole_point}
use Rattle.case.proofs.record.Record.corner.Goals as goal

pub loop-j-preserved : goal.loop-j-preserved
loop-j-preserved c =
    let parts = c.self.inside.parts in
    let here = get_or_default parts c.loop-j.j c.index-self-j.result entire (omega (arith, c.self.invariant, c.loop-j-test.true, c.requires)) in (
      omega (arith, c.push.ensures.len, c.loop-j.invariant.0),
      ap (map means) c.push.ensures.items
          ∙ point_so_far c.args.axes.now parts c.args.corner c.loop-j.j _ c.loop-j.point.items c.end.result c.loop-j-test.true c.loop-j.invariant.1 (rw (c.end_used-used.ensures, here) at c.end.ensures),
    )

pub returns : goal.returns
returns c =
    whole_point c.args.axes.now c.self.inside.parts c.args.corner c.loop-j.j c.loop-j.point.items c.loop-j-test.false c.loop-j.invariant.1
    ∙ ap (λ box. coordinates c.args.axes.now box (corner_of (length c.args.axes.now) c.args.corner)) c.self.view_is
