use Rattle.std.proofs.Common.{◌≡◌, map, length, sym, ap, ◌∙◌}
use lib.ListN.{length-map}
use Rattle.std.specs.Result.{is_ok}
use Rattle.algebra.specs.Pair.{sign_of}
use Rattle.patch.specs.Judging.{signs}
use Rattle.case.proofs.Lent.{written_front}
use Rattle.case.proofs.judging.ask.Goals as goal

pub returns : goal.returns
returns g c =
    let patch = c.args.patch.now in
    let b = map g.K.Number.means patch in
    let n : length patch ≡ length (signs b) = sym (length-map b sign_of ∙ length-map patch g.K.Number.means) in
    let e = written_front (is_ok c.write_signs.result) (signs b) _ c.write_signs.new.signs (length patch) (ap is_ok c.unwrap.ensures) c.write_signs.ensures.signs n in
    record {
      answer = c.choose.ensures.answer ∙ ap (λ xs. g.C.Chooser.meaning c.args.chooser.now (record { degrees = c.args.degrees.now; halvings = c.args.halvings.now; depth = c.args.depth; signs = xs })) e;
      same = c.choose.ensures.same;
    }
