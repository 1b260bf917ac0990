use Rattle.std.proofs.Common.{◌≡◌, length, Some, ap, ◌∙◌, rules}
use Rattle.patch.specs.Box.{coordinates}
use Rattle.patch.specs.Corners.{corner_of}
use Rattle.search.specs.Calls.{pointed}
use Rattle.case.proofs.Pointed.{point_is_told}
use Rattle.case.proofs.case.Case.point.Goals as goal

pub returns : goal.returns
returns g c =
    let k = c.args.self.now in
    let cornered : k.corner ≡ Some c.in_ok-corner.corner = search rules in
    λ work μ len.
    ap pointed (c.corner.ensures ∙ ap (λ axes. coordinates axes k.found (corner_of (length axes) c.in_ok-corner.corner)) c.as_slice-axes.ensures.value)
    ∙ point_is_told k work g.K.Number.limit μ len c.in_ok-corner.corner cornered
