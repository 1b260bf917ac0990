use Rattle.std.proofs.Common.{◌^◌, map, length, None, cond, le-leb, sym, ap, ◌∙◌, arith, rules, tests}
use Rattle.std.proofs.lemmas.Iterator.{YieldsList-from_range}
use Rattle.std.proofs.lemmas.Iterator.Search.{find_from_yields_List}
use Rattle.std.specs.Option.{option_map}
use Rattle.std.proofs.lemmas.Iterator.Adapters.{option_map_id}
use Rattle.patch.specs.Judging.{breaks, broken_corner}
use Rattle.patch.specs.Corners.{ends_of, rank, corner_of}
use Rattle.patch.proofs.Meaning.{found_corner_is_false}
use Rattle.patch.proofs.BoxCorners.{all_corners, found_by_number}
use Rattle.patch.proofs.corners.broken_corner.Goals as goal

pub returns-then-degrees-gt-AXES-clause-meaning : goal.returns-then-degrees-gt-AXES-clause-meaning
returns-then-degrees-gt-AXES-clause-meaning g c = found_corner_is_false

pub returns-clause-answer : goal.returns-clause-answer
returns-clause-answer g c =
    let ns = c.args.degrees.now in
    let m = length ns in
    let test = breaks c.args.relation ns (map ends_of c.args.ends.now) (map g.K.Number.means c.args.numbers.now) in
    let n = all_corners m c.if-degrees-gt-AXES.false in
    sym (option_map_id c.find.result)
    ∙ find_from_yields_List (λ x. test (corner_of m x)) c.find.new.self _ c.find.result c.find.ensures.ran (YieldsList-from_range 0 (2 ^ m) (2 ^ m) (λ i. record { start = 0; end = n i }) (omega arith)) (λ x b q k. search (rules, tests))
    ∙ found_by_number test m ∙ ap (λ few. cond few (option_map rank (broken_corner c.args.relation ns (map ends_of c.args.ends.now) (map g.K.Number.means c.args.numbers.now))) None) (sym (le-leb m 4 c.if-degrees-gt-AXES.false))

pub returns-clause-meaning : goal.returns-clause-meaning
returns-clause-meaning g c = found_corner_is_false
