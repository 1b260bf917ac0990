use Rattle.std.proofs.Common.{map, sym, ap, ◌∙◌, arith}
use Rattle.std.proofs.lemmas.List.{length-map}
use Rattle.std.proofs.lemmas.Bool.Decides.{nat_tests}
use Rattle.algebra.specs.Pair.{pairs, sign_of}
use Rattle.patch.proofs.Writing.{read, written_more, written_all}
use Rattle.patch.proofs.judging.write_signs.Goals as goal

pub loop-i-preserved : goal.loop-i-preserved
loop-i-preserved g c =
    let means = g.K.Number.means in
    let numbers = c.args.numbers.now in
    let i = c.loop-i.i in
    let n = length-map numbers means in
    written_more sign_of (map means numbers) c.args.signs.now c.loop-i.signs i c.loop-i.invariant pairs.nought c.sign.result (omega arith) (omega arith)
    (c.sign.ensures ∙ ap sign_of (sym (read means numbers i c.index-numbers-i.result pairs.nought c.loop-i-test.true c.index-numbers-i.is)))

pub returns : goal.returns
returns g c =
    let means = g.K.Number.means in
    let numbers = c.args.numbers.now in
    let n = length-map numbers means in
    record {
      room = grind (arith, nat_tests);
      signs = written_all sign_of (map means numbers) c.args.signs.now c.loop-i.signs c.loop-i.i c.loop-i.invariant (omega arith);
    }
