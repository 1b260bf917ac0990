use Rattle.std.proofs.Common.{rules, ℕ, Bool, length, ltb}
use borrow.Author.Tests.{tests}
use Rattle.std.specs.declared.cmp.Reverse.{Reverse}
use Rattle.chooser.specs.BySigns.{changes}
use Rattle.chooser.proofs.Firsts.{first_by_key, in_order, is_gt-nat_cmp}
use Rattle.chooser.proofs.by_signs.Patch.most_changed.Goals as goal

pub returns : goal.returns
returns c =
    let ns = c.args.self.now.degrees.now in
    let h : ℕ → ℕ = changes ns c.args.self.now.signs.now in
    let more : ℕ → ℕ → Bool = λ i j. ltb (h j) (h i) in
    let key : ℕ → Reverse ℕ = λ j. record { 0 = h j } in
    first_by_key c.min_by_key.ensures.runs _ _ _ _ c.min_by_key.ensures.ran key (λ x k q d. search (rules, tests)) more (λ i j. is_gt-nat_cmp (h i) (h j)) (length ns) (search (rules, in_order))
