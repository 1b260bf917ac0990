use Rattle.std.proofs.Common.{rules, ℕ, Bool, length, ltb, ◌∙◌}
use borrow.Author.Tests.{tests}
use Rattle.chooser.specs.Asked.{asked}
use Rattle.chooser.specs.Evening.{halved}
use Rattle.chooser.proofs.Firsts.{first_by_key, first_or_0, in_order, is_gt-nat_cmp}
use Rattle.chooser.proofs.question.Question.least_halved.Goals as goal

pub returns : goal.returns
returns c =
    let h : ℕ → ℕ = halved (asked c.args.self.now) in
    let fewer : ℕ → ℕ → Bool = λ i j. ltb (h i) (h j) in
    let n = length c.args.self.now.degrees.now in
    c.unwrap_or.ensures
    ∙ first_or_0 fewer n c.min_by_key.result
    (first_by_key c.min_by_key.ensures.runs _ _ _ _ c.min_by_key.ensures.ran h (λ x k q d. search (rules, tests)) fewer (λ i j. is_gt-nat_cmp (h j) (h i)) n (search (rules, in_order)))
