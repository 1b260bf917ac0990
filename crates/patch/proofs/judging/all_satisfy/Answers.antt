use Rattle.std.proofs.Common.{sym, ◌∙◌, rules, tests}
use Rattle.std.proofs.lemmas.Iterator.{YieldsList-from_slice}
use Rattle.std.proofs.lemmas.Iterator.Search.{all_from_yields_List}
use Rattle.std.proofs.lemmas.List.Folds.{list_all-map}
use Rattle.algebra.specs.Pair.{sign_of}
use Rattle.patch.specs.Judging.{satisfies}
use Rattle.patch.proofs.Meaning.{all_satisfied_is_true_inside}
use Rattle.patch.proofs.judging.all_satisfy.Goals as goal

pub returns-clause-answer : goal.returns-clause-answer
returns-clause-answer g c =
    let m = g.K.Number in
    all_from_yields_List (λ x. satisfies c.args.relation (sign_of (m.means x))) _ _ _ c.all.ensures.ran (YieldsList-from_slice c.args.numbers.now (cc)) (λ x b q k. search (rules, tests))
    ∙ sym (list_all-map (λ x. satisfies c.args.relation (sign_of x)) m.means c.args.numbers.now)

pub returns-clause-meaning : goal.returns-clause-meaning
returns-clause-meaning g c = all_satisfied_is_true_inside
