-- Bytes copied onto others.
use Rattle.std.proofs.Common.{◌≡◌, ℕ, ◌+◌, List, ◌++◌, sym, ap, ◌∙◌, append_assoc, add-one}
use Rattle.readings.specs.Lines.{copies}

pub one_more : (start items more once : List ℕ) (n : ℕ) → items ≡ start ++ copies n once → more ≡ items ++ once → more ≡ start ++ copies (n + 1) once
one_more start items more once n so added =
    added ∙ ap (λ bs. bs ++ once) so ∙ append_assoc start (copies n once) once ∙ ap (λ k. start ++ copies k once) (sym (add-one n))
