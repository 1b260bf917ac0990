use Rattle.std.proofs.Common.{◌≡◌, ◌≤◌, ℤ, nat_abs, ap, ◌∙◌, w64, to_z, of_z}
use Rattle.std.proofs.lemmas.Int.{to_z-of_z}
use Rattle.algebra.specs.Pair.{Pair}
use Rattle.number.specs.Limits.{word}
use Rattle.patch.proofs.Words.{fits_word, sum_is}
use Rattle.patch.proofs.parts.PartsAddAssign.add_assign.Goals as goal

-- a part as the code holds it
held : (part : Pair → ℤ) (x : Pair) (v : ℤ) → nat_abs v ≤ word → v ≡ part x → to_z w64 (of_z w64 v) ≡ part x
held part x v small e = to_z-of_z w64 v (fits_word v small) ∙ e

pub returns : goal.returns
returns c =
    let value = sum_is (held (λ x. x.value) c.args.self.now _ c.self.invariant.0 (ap (λ x. x.value) c.self.view_is)) (held (λ x. x.value) c.args.other _ c.other.invariant.0 (ap (λ x. x.value) c.other.view_is)) c.requires.0 in
    let drift = sum_is (held (λ x. x.drift) c.args.self.now _ c.self.invariant.1 (ap (λ x. x.drift) c.self.view_is)) (held (λ x. x.drift) c.args.other _ c.other.invariant.1 (ap (λ x. x.drift) c.other.view_is)) c.requires.1 in
    record { after = λ i. record { value = value i; drift = drift i } }
