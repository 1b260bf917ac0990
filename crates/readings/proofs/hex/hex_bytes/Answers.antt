use Rattle.std.proofs.Common.{IfOk, rules}
use Rattle.std.proofs.lemmas.Result.{IfOk-weaker}
use Rattle.readings.proofs.Decoding.{PairByPair, decoded}
use Rattle.readings.proofs.hex.hex_bytes.Goals as goal

pub returns : goal.returns
returns c =
    let pairs : IfOk c.try_collect.result (λ v. PairByPair c.args.digits.now v.items) = search rules in
    IfOk-weaker c.try_collect.result _ _ (λ v p. decoded c.args.digits.now v.items p) pairs
