use Rattle.std.proofs.Common.{sym, ◌∙◌, ap₂}
use Rattle.case.proofs.Told.{as_many_wait}
use Rattle.case.proofs.case.Case.verdict.Goals as goal

pub returns : goal.returns
returns g c =
    let k = c.args.self.now in
    λ work. ap₂ (λ w n. record { word = w; examined = k.examined; waiting = n; aside_depth = k.aside_depth; aside_range = k.aside_range }) (c.word.ensures work) (c.len.ensures.count ∙ sym (as_many_wait k work))
