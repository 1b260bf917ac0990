use Rattle.std.proofs.Common.{◌∙◌, arith}
use Rattle.algebra.specs.Layout.{numbers}
use Rattle.ticket.specs.Law.{content}
use Rattle.ticket.specs.Sizes.{degrees_of}
use Rattle.patch.specs.FirstPatch.{turned, number_at}
use Rattle.patch.proofs.Summing.{number_carried}
use Rattle.patch.proofs.Writing.{filled_more, filled_all}
use Rattle.patch.proofs.first_patch.fill.Goals as goal

pub number-requires : goal.number-requires
number-requires g c = number_carried g.K.Number.drifts (content c.args.ticket.now.ticket) c.loop-at.at c.number_at.result c.requires.carried c.number_at.ensures

pub loop-at-preserved : goal.loop-at-preserved
loop-at-preserved g c =
    let at = number_at (turned (content c.args.ticket.now.ticket)) in
    filled_more g.K.Number.means at c.loop-at.patch c.loop-at.at c.number.result c.loop-at.invariant (omega arith) (c.number.ensures ∙ c.number_at.ensures)

pub returns : goal.returns
returns g c =
    let t = content c.args.ticket.now.ticket in
    filled_all g.K.Number.means (number_at (turned t)) c.loop-at.patch c.loop-at.at (numbers (degrees_of t.axes)) c.loop-at.invariant (omega arith) (omega arith)
