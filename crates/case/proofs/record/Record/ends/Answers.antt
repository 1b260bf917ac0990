use Rattle.std.proofs.Common.{◌≡◌, ◌<◌, ◌++◌, map, length, ap, ap₂, ◌∙◌, rules, arith}
use Rattle.patch.specs.Box.{box_ends}
use Rattle.patch.specs.Corners.{ends_of}
use Rattle.case.proofs.EndsOfBox.{one_more_end, none_later, all_ends}
use Rattle.std.proofs.lemmas.Slice.Zip.{either_empty_from_Zip}
use Rattle.case.proofs.record.Record.ends.Goals as goal

pub loop-axis-init : goal.loop-axis-init
loop-axis-init c =
    let i = c.into_iter-axis-iterator.result in
    let a : i.a.rest.now ≡ c.args.axes.now = search rules in
    let b : i.b.rest.now ≡ c.self.inside.parts = search rules in
    (ap (λ xs. map ends_of xs ++ box_ends i.a.rest.now i.b.rest.now) c.new-ends.ensures ∙ ap₂ box_ends a (b ∙ c.self.view_is), omega (arith, ap length c.new-ends.ensures, ap length a), omega (arith, c.requires, ap length a, ap length b, c.self.invariant))

pub push-requires : goal.push-requires
push-requires c =
    let s = c.in-Some.ensures.steps in
    let room : length c.loop-axis.ends.items < 4 = omega (arith, c.requires, c.loop-axis.invariant.1, ap length s.0) in
    search rules

pub loop-axis-preserved : goal.loop-axis-preserved
loop-axis-preserved c =
    let s = c.in-Some.ensures.steps in
    let i = c.loop-axis.axis-iterator in
    let n = c.next.new.self in (
      ap (λ xs. map ends_of xs ++ box_ends n.a.rest.now n.b.rest.now) c.push.ensures.items
          ∙ one_more_end i.a.rest.now n.a.rest.now i.b.rest.now n.b.rest.now c.in-Some.axis.now c.in-Some.part.now c.loop-axis.ends.items c.ends.result s.0 s.1 c.ends.ensures
          ∙ c.loop-axis.invariant.0,
      omega (arith, c.push.ensures.len, c.loop-axis.invariant.1, ap length s.0),
      omega (arith, c.loop-axis.invariant.2, ap length s.0, ap length s.1),
    )

pub returns : goal.returns
returns c =
    let i = c.loop-axis.axis-iterator in
    let done = none_later i.a.rest.now i.b.rest.now (either_empty_from_Zip i c.next.new.self c.next.result c.in-None.is c.next.ensures.steps) c.loop-axis.invariant.2 in
    all_ends i.a.rest.now i.b.rest.now c.loop-axis.ends.items done ∙ c.loop-axis.invariant.0
