use Rattle.std.proofs.Common.{rules, ◌≡◌, ℕ, ◌+◌, ◌≤◌, ◌&&◌, ltb, le-ltb, get_or, arith, Option, Some, None, MatchOption, List, length, ap, sym, ◌∙◌}
use Rattle.std.proofs.lemmas.List.{get_or_past}
use Rattle.algebra.specs.Layout.{stride, along}
use Rattle.algebra.specs.declared.sign.Sign.{Sign}
use Rattle.patch.specs.declared.shape.Shape.{Shape}
use Rattle.chooser.specs.BySigns.{tally, changes, differ_at}
use Rattle.chooser.specs.Rows.{changes_at}
use Rattle.chooser.proofs.Tallies.{tally_none}
use Rattle.chooser.proofs.by_signs.Patch.changes.Goals as goal

-- where there is no axis nothing changes along it
no_changes : (ns : List ℕ) (signs : List Sign) (j : ℕ) → length ns ≤ j → changes ns signs j ≡ 0
no_changes ns signs j l =
    tally_none (λ i. ltb (along ns j i) (get_or ns j 0) && differ_at signs (stride ns j) i) 0 (length signs)
    (λ k _. ap (λ t. t && differ_at signs (stride ns j) (0 + k)) (le-ltb (along ns j (0 + k)) (get_or ns j 0) (omega (arith, get_or_past ns j 0 l))))

-- with an axis or without
either : {A P : Type 0} {Q S : A → Type 0} (o : Option A) (n m : ℕ) → MatchOption o P Q → MatchOption o (n ≡ 0) S → (P → m ≡ 0) → ((x : A) → Q x → S x → n ≡ m) → n ≡ m
either None n m p e none some = e ∙ sym (none p)
either (Some x) n m q s none some = some x q s

pub returns : goal.returns
returns c =
    let patch = c.args.self.now in
    either c.along.result _ _ c.along.ensures c.map_or.ensures (no_changes patch.degrees.now patch.signs.now c.args.axis)
    (λ rows lies counted.
    let n : c.map_or.result ≡ tally (changes_at rows.shape rows.signs.now) 0 (length rows.signs.now) = search rules in
    n ∙ ap (λ (s : List Sign). tally (changes_at rows.shape s) 0 (length s)) lies.1 ∙ ap (λ (s : Shape). tally (changes_at s patch.signs.now) 0 (length patch.signs.now)) lies.0)
