use Rattle.std.proofs.Common.{◌≡◌, ◌+◌, ◌-◌, ◌*◌, ◌^◌, ◌<◌, ◌≤◌, map, length, get_or, sym, ap, ◌∙◌, arith, rules}
use Rattle.patch.specs.Box.{entire}
use Rattle.search.proofs.Steps.{idle_steps}
use Rattle.case.specs.Model.{ticket_of, model}
use Rattle.case.proofs.BoxOf.{halvings_within_level}
use Rattle.case.proofs.Newest.{none_on_top}
use Rattle.case.proofs.Standing.{axes, few_axes, one_and_older, fewer_older_than_halvings, examined_fits, aside_depth_fits, aside_range_fits, left_sound, refuted_sound, split_sound}
use Rattle.case.proofs.Ran.{none_waits}
use Rattle.case.proofs.Examined.{newest_ends_within, clear_steps, broken_steps, deep_steps, still_shallow, axis_inside, too_large_steps, split_steps}
use Rattle.case.proofs.case.Case.examine.Goals as goal

pub returns-in_default-clause-steps : goal.returns-in_default-clause-steps
returns-in_default-clause-steps g c =
    let k = c.args.self.now in
    let work = map g.K.Number.means c.args.work.now in
    sym (idle_steps (ticket_of k) g.K.Number.limit (g.C.Chooser.meaning c.args.chooser.now) 1 (model k work) (none_waits k work (none_on_top k.waiting (sym c.top.ensures ∙ c.in_default.is))))

pub offset_bounds-work-start : goal.offset_bounds-work-start
offset_bounds-work-start g c =
    let k = c.args.self.now in
    let on_top = sym c.top.ensures ∙ c.in-Some.is in
    let within : (c.len.result - 1) * k.size + k.size ≤ length c.args.work.now = omega (arith, newest_ends_within k c.in-Some.newest on_top c.len.result c.len.ensures.count (length c.args.work.now) c.requires) in
    search rules

pub slice_bounds-judge-end : goal.slice_bounds-judge-end
slice_bounds-judge-end g c =
    let k = c.args.self.now in
    let on_top = sym c.top.ensures ∙ c.in-Some.is in
    let within : (c.len.result - 1) * k.size + k.size ≤ length c.args.work.now = omega (arith, newest_ends_within k c.in-Some.newest on_top c.len.result c.len.ensures.count (length c.args.work.now) c.requires) in
    search rules

pub overflow_add-self : goal.overflow_add-self
overflow_add-self g c =
    let k = c.args.self.now in
    let on_top = sym c.top.ensures ∙ c.in-Some.is in
    let fits : k.examined + 1 < 2 ^ 32 = examined_fits k c.in-Some.newest on_top in
    search rules

pub invariant_of-self-clause-sound : goal.invariant_of-self-clause-sound
invariant_of-self-clause-sound g c =
    let k = c.args.self.now in
    let on_top = sym c.top.ensures ∙ c.in-Some.is in
    left_sound k c.in-Some.newest on_top c.pop.new.self k.aside_depth k.aside_range c.pop.ensures (omega arith)

pub invariant_of-self-in-Broken-clause-sound : goal.invariant_of-self-in-Broken-clause-sound
invariant_of-self-in-Broken-clause-sound g c =
    let k = c.args.self.now in
    let on_top = sym c.top.ensures ∙ c.in-Some.is in
    refuted_sound k c.in-Some.newest on_top c.clear.new.self c.in-Broken.corner c.clear.ensures

pub overflow_add-self-in-Deep : goal.overflow_add-self-in-Deep
overflow_add-self-in-Deep g c =
    let k = c.args.self.now in
    let on_top = sym c.top.ensures ∙ c.in-Some.is in
    let fits : k.aside_depth + 1 < 2 ^ 32 = aside_depth_fits k c.in-Some.newest on_top in
    search rules

pub invariant_of-self-in-Deep-clause-sound : goal.invariant_of-self-in-Deep-clause-sound
invariant_of-self-in-Deep-clause-sound g c =
    let k = c.args.self.now in
    let on_top = sym c.top.ensures ∙ c.in-Some.is in
    left_sound k c.in-Some.newest on_top c.pop-in-Deep.new.self (k.aside_depth + 1) k.aside_range c.pop-in-Deep.ensures (omega arith)

pub overflow_add-self-in-Err : goal.overflow_add-self-in-Err
overflow_add-self-in-Err g c =
    let k = c.args.self.now in
    let on_top = sym c.top.ensures ∙ c.in-Some.is in
    let fits : k.aside_range + 1 < 2 ^ 32 = aside_range_fits k c.in-Some.newest on_top in
    search rules

pub invariant_of-self-in-Err-clause-sound : goal.invariant_of-self-in-Err-clause-sound
invariant_of-self-in-Err-clause-sound g c =
    let k = c.args.self.now in
    let on_top = sym c.top.ensures ∙ c.in-Some.is in
    left_sound k c.in-Some.newest on_top c.pop-in-Err.new.self k.aside_depth (k.aside_range + 1) c.pop-in-Err.ensures (omega arith)

pub halve_top-requires : goal.halve_top-requires
halve_top-requires g c =
    let k = c.args.self.now in
    let on_top = sym c.top.ensures ∙ c.in-Some.is in
    let f = g.K.Number.means in
    let μ = g.C.Chooser.meaning c.args.chooser.now in
    let inside = axis_inside k c.in-Some.newest on_top c.len.result c.len.ensures.count g.K.Number.limit μ f c.args.work.now c.in-Undecided.axis c.in-Undecided.first c.in-Undecided.ensures.answer (g.met.C.Chooser.picks c.args.chooser.now) in
    let deeper = still_shallow k c.in-Some.newest on_top c.len.result c.len.ensures.count g.K.Number.limit μ f c.args.work.now c.in-Undecided.axis c.in-Undecided.first c.in-Undecided.ensures.answer in
    record {
      some = omega (arith, ap length (one_and_older k c.in-Some.newest on_top));
      room = omega (arith, ap length (one_and_older k c.in-Some.newest on_top), fewer_older_than_halvings k c.in-Some.newest on_top, deeper, k.bounded);
      axis = omega (arith, inside, few_axes k);
      small = λ top is.
          let same : top ≡ c.in-Some.newest = cc (is, on_top) in
          omega (arith, halvings_within_level (axes k) c.in-Some.newest c.in-Undecided.axis inside, deeper, k.bounded, ap (λ x. (get_or x c.in-Undecided.axis entire).halvings) same);
    }

pub invariant_of-self-in-Ok-clause-sound : goal.invariant_of-self-in-Ok-clause-sound
invariant_of-self-in-Ok-clause-sound g c =
    let k = c.args.self.now in
    let on_top = sym c.top.ensures ∙ c.in-Some.is in
    let f = g.K.Number.means in
    let μ = g.C.Chooser.meaning c.args.chooser.now in
    let inside = axis_inside k c.in-Some.newest on_top c.len.result c.len.ensures.count g.K.Number.limit μ f c.args.work.now c.in-Undecided.axis c.in-Undecided.first c.in-Undecided.ensures.answer (g.met.C.Chooser.picks c.args.chooser.now) in
    let deeper = still_shallow k c.in-Some.newest on_top c.len.result c.len.ensures.count g.K.Number.limit μ f c.args.work.now c.in-Undecided.axis c.in-Undecided.first c.in-Undecided.ensures.answer in
    split_sound k c.in-Some.newest on_top c.halve_top.new.self c.in-Undecided.axis c.in-Undecided.first inside deeper c.halve_top.ensures

pub returns-in-Clear-clause-steps : goal.returns-in-Clear-clause-steps
returns-in-Clear-clause-steps g c =
    let k = c.args.self.now in
    let on_top = sym c.top.ensures ∙ c.in-Some.is in
    let f = g.K.Number.means in
    let μ = g.C.Chooser.meaning c.args.chooser.now in
    clear_steps k c.in-Some.newest on_top c.len.result c.len.ensures.count g.K.Number.limit μ f c.args.work.now c.pop.new.self c.in-Clear.ensures.answer c.pop.ensures

pub returns-in-Broken-clause-steps : goal.returns-in-Broken-clause-steps
returns-in-Broken-clause-steps g c =
    let k = c.args.self.now in
    let on_top = sym c.top.ensures ∙ c.in-Some.is in
    let f = g.K.Number.means in
    let μ = g.C.Chooser.meaning c.args.chooser.now in
    broken_steps k c.in-Some.newest on_top c.len.result c.len.ensures.count g.K.Number.limit μ f c.args.work.now c.clear.new.self c.in-Broken.corner c.in-Broken.ensures.answer c.clear.ensures

pub returns-in-Deep-clause-steps : goal.returns-in-Deep-clause-steps
returns-in-Deep-clause-steps g c =
    let k = c.args.self.now in
    let on_top = sym c.top.ensures ∙ c.in-Some.is in
    let f = g.K.Number.means in
    let μ = g.C.Chooser.meaning c.args.chooser.now in
    deep_steps k c.in-Some.newest on_top c.len.result c.len.ensures.count g.K.Number.limit μ f c.args.work.now c.pop-in-Deep.new.self c.in-Deep.ensures.answer c.pop-in-Deep.ensures

pub returns-in-Ok-clause-steps : goal.returns-in-Ok-clause-steps
returns-in-Ok-clause-steps g c =
    let k = c.args.self.now in
    let on_top = sym c.top.ensures ∙ c.in-Some.is in
    let f = g.K.Number.means in
    let μ = g.C.Chooser.meaning c.args.chooser.now in
    split_steps k c.in-Some.newest on_top c.len.result c.len.ensures.count g.K.Number.limit μ f c.args.work.now c.in-Undecided.axis c.in-Undecided.first c.in-Undecided.ensures.answer (g.met.C.Chooser.picks c.args.chooser.now) c.as_slice.result.now c.as_slice.ensures.value c.requires c.halve_top.new.self (map f c.halve.new.work) (sym c.in-Ok.ensures.granted) c.in-Ok.ensures.halved c.halve_top.ensures

pub returns-in-Err-clause-steps : goal.returns-in-Err-clause-steps
returns-in-Err-clause-steps g c =
    let k = c.args.self.now in
    let on_top = sym c.top.ensures ∙ c.in-Some.is in
    let f = g.K.Number.means in
    let μ = g.C.Chooser.meaning c.args.chooser.now in
    rw c.in-Err.ensures.refused
    (too_large_steps k c.in-Some.newest on_top c.len.result c.len.ensures.count g.K.Number.limit μ f c.args.work.now c.in-Undecided.axis c.in-Undecided.first c.in-Undecided.ensures.answer (g.met.C.Chooser.picks c.args.chooser.now) c.as_slice.result.now c.as_slice.ensures.value c.requires c.pop-in-Err.new.self (sym c.in-Err.ensures.granted) c.pop-in-Err.ensures)
