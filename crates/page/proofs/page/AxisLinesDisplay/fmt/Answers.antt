-- Each turn writes the line of the next axis.
use Rattle.std.proofs.Common.{[], ◌∷◌, ◌++◌, refl}
use Rattle.page.specs.Text.{axis_text}
use Rattle.page.proofs.SoFar.{so_far_more, so_far_all, numbered_more, numbered_all}
use Rattle.page.proofs.page.AxisLinesDisplay.fmt.Goals as goal

pub loop-number-preserved : goal.loop-number-preserved
loop-number-preserved g c = λ plain.
    let s = c.loop-number.invariant plain in
    so_far_more g.W.Write.write_str_gives c.args.f.now c.loop-number.f c.writeln.new.self _ _ _ _ s (numbered_more (λ n a. axis_text n a ++ 10 ∷ []) c.args.self.now.0.now c.loop-number.number _ c.loop-number-test.true) (c.in_ok-writeln.ensures.writes s.put.plain refl)

pub returns-clause-writes : goal.returns-clause-writes
returns-clause-writes g c = λ plain ok.
    so_far_all g.W.Write.write_str_gives c.args.f.now c.loop-number.f _ _ (c.loop-number.invariant plain) (numbered_all (λ n a. axis_text n a ++ 10 ∷ []) c.args.self.now.0.now c.loop-number.number c.loop-number-test.false)
