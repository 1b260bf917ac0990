use Rattle.std.proofs.Common.{length, get_or, ap, ◌∙◌, arith, rules, tests}
use Rattle.std.proofs.lemmas.Iterator.{YieldsList-from_slice, YieldsList-from_range, YieldsList-from_zip}
use Rattle.std.proofs.lemmas.Iterator.Search.{all_from_yields_List}
use Rattle.algebra.specs.declared.half.Half.TheVariants.{Lower}
use Rattle.patch.specs.Judging.{closed}
use Rattle.patch.specs.Corners.{ends_of, corner_of}
use Rattle.patch.proofs.BoxCorners.{inside_is}
use Rattle.patch.proofs.corners.Asked.is_inside.Goals as goal

pub returns : goal.returns
returns g c =
    let m = length c.args.self.now.degrees.now in
    let n = c.args.corner in
    all_from_yields_List (λ p. closed (get_or (corner_of m n) p.1 Lower) (ends_of p.0)) c.all.new.self _ _ c.all.ensures.ran
    (YieldsList-from_zip (YieldsList-from_slice c.args.self.now.ends.now (ap (λ s. s.rest.now) c.zip.ensures.first ∙ c.iter.ensures.rest)) (YieldsList-from_range 0 m m c.zip.ensures.second (omega arith))) (λ p b q k. search (rules, tests))
    ∙ inside_is c.args.self.now.ends.now m n
