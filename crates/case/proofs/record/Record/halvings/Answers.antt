use Rattle.std.proofs.Common.{◌<◌, ◌++◌, [], ◌∷◌, length, take, sym, ap, ap₂, ◌∙◌, rules, arith}
use Rattle.std.proofs.lemmas.List.{take_more, take_all, map_push, length-take}
use lib.ListN.{length-map}
use Rattle.search.specs.Search.{halvings_of}
use Rattle.case.proofs.record.Record.halvings.Goals as goal

pub push-requires : goal.push-requires
push-requires c =
    let items = take c.args.axes c.self.inside.parts in
    let room : length c.loop-part.halvings.items < 4 = omega (arith, c.requires, c.loop-part-test.true, ap length c.loop-part.invariant, length-map (take c.loop-part.part-index items) (λ p. p.halvings), length-take c.loop-part.part-index items, length-take c.args.axes c.self.inside.parts) in
    search rules

pub loop-part-preserved : goal.loop-part-preserved
loop-part-preserved c =
    let items = take c.args.axes c.self.inside.parts in
    let i = c.loop-part.part-index in
    c.push.ensures.items ∙ ap₂ (λ xs h. xs ++ h ∷ []) c.loop-part.invariant (c.halvings.ensures ∙ ap (λ p. p.halvings) c.part-item.is)
    ∙ sym (ap halvings_of (take_more items i c.part-item.result c.loop-part-test.true) ∙ map_push (λ p. p.halvings) (take i items) _)

pub returns : goal.returns
returns c =
    let items = take c.args.axes c.self.inside.parts in
    c.loop-part.invariant ∙ ap halvings_of (take_all c.loop-part.part-index items (omega (arith, c.loop-part-test.false)) ∙ ap (take c.args.axes) c.self.view_is)
