use Rattle.std.proofs.Common.{◌≡◌, ◌+◌, ◌-◌, ◌*◌, ◌^◌, ◌<◌, true, false, map, length, take, drop, sym, ap, ◌∙◌, subst, ap₂, arith, rules, leb-true, is_ok}
use borrow.Rule.Slice.PartMut.{put_mid}
use Rattle.std.proofs.lemmas.List.{length-map, length-take, length-drop}
use Rattle.algebra.specs.Layout.{numbers}
use Rattle.algebra.proofs.Places.{numbers_positive}
use Rattle.patch.specs.Judging.{all_grow}
use Rattle.patch.specs.Halving.{part, Halved, both_halves}
use Rattle.patch.proofs.Granting.{granted_is, by_growth, room_is, growth_is}
use Rattle.patch.proofs.Counting.{of_shape, size_is}
use Rattle.patch.proofs.Meaning.{half_represents}
use Rattle.patch.proofs.Slots.{part_means, put_means, slots_mean, outside_is, halved_is}
use Rattle.patch.proofs.halving.halve.Goals as goal

pub returns-in_err-shape-clause-represents : goal.returns-in_err-shape-clause-represents
returns-in_err-shape-clause-represents g c = half_represents

pub returns-then-not-has_room-clause-represents : goal.returns-then-not-has_room-clause-represents
returns-then-not-has_room-clause-represents g c = half_represents

pub returns-then-not-all_grow-clause-represents : goal.returns-then-not-all_grow-clause-represents
returns-then-not-all_grow-clause-represents g c = half_represents

pub returns-clause-represents : goal.returns-clause-represents
returns-clause-represents g c = half_represents

pub returns-then-not-all_grow-clause-answer : goal.returns-then-not-all_grow-clause-answer
returns-then-not-all_grow-clause-answer g c =
    let m = g.K.Number in
    let work = c.args.work.now in
    let s = of_shape c.args.degrees.now c.args.axis c.in_ok-shape.shape (search rules) in
    let room = room_is m.means c.args.degrees.now c.args.axis c.args.start work c.in_ok-shape.shape s.2 c.has_room.result c.has_room.ensures ∙ c.if-not-has_room.false in
    by_growth m.limit c.args.degrees.now c.args.axis c.args.start (map m.means work) s.0 s.1 false room
    (growth_is m.means c.args.degrees.now c.args.axis c.args.start work c.in_ok-shape.shape s.2 m.limit c.from.result c.all_grow.result c.from.ensures c.all_grow.ensures ∙ c.if-not-all_grow.true)

pub returns-then-not-all_grow-clause-granted : goal.returns-then-not-all_grow-clause-granted
returns-then-not-all_grow-clause-granted g c =
    let work = c.args.work.now in
    let len : length work < 2 ^ 64 = search rules in
    ap is_ok (returns-then-not-all_grow-clause-answer g c) ∙ granted_is g.K.Number.limit c.args.degrees.now c.args.axis c.args.start (map g.K.Number.means work) (omega (arith, length-map work g.K.Number.means))

pub split-requires : goal.split-requires
split-requires g c =
    let m = g.K.Number in
    let ns = c.args.degrees.now in
    let j = c.args.axis in
    let start = c.args.start in
    let work = c.args.work.now in
    let shape = c.in_ok-shape.shape in
    let s = of_shape ns j shape (search rules) in
    let fits = leb-true (start + (shape.size + shape.size)) (length work) (sym c.has_room.ensures ∙ c.if-not-has_room.false) in
    record {
      some = subst (λ s. 0 < s.blocks) (sym s.2) (numbers_positive (take j ns));
      counts = subst (λ s. s.size ≡ s.blocks * ((s.degree + 1) * s.stride)) (sym s.2) (sym (size_is ns j s.0));
      two = simp (length-take, length-drop) (omega arith);
      small = ap₂ (all_grow m.limit) (sym c.from.ensures) (slots_mean m.means start shape.size (start + 2 * shape.size - start) work (omega arith) ∙ sym (part_means m.means start shape.size work)) ∙ sym c.all_grow.ensures ∙ c.if-not-all_grow.false;
    }

pub returns-clause-answer : goal.returns-clause-answer
returns-clause-answer g c =
    let m = g.K.Number in
    let work = c.args.work.now in
    let s = of_shape c.args.degrees.now c.args.axis c.in_ok-shape.shape (search rules) in
    let room = room_is m.means c.args.degrees.now c.args.axis c.args.start work c.in_ok-shape.shape s.2 c.has_room.result c.has_room.ensures ∙ c.if-not-has_room.false in
    by_growth m.limit c.args.degrees.now c.args.axis c.args.start (map m.means work) s.0 s.1 true room
    (growth_is m.means c.args.degrees.now c.args.axis c.args.start work c.in_ok-shape.shape s.2 m.limit c.from.result c.all_grow.result c.from.ensures c.all_grow.ensures ∙ c.if-not-all_grow.false)

pub returns-clause-granted : goal.returns-clause-granted
returns-clause-granted g c =
    let work = c.args.work.now in
    let len : length work < 2 ^ 64 = search rules in
    ap is_ok (returns-clause-answer g c) ∙ granted_is g.K.Number.limit c.args.degrees.now c.args.axis c.args.start (map g.K.Number.means work) (omega (arith, length-map work g.K.Number.means))

pub returns-clause-halved : goal.returns-clause-halved
returns-clause-halved g c =
    let f = g.K.Number.means in
    let ns = c.args.degrees.now in
    let j = c.args.axis in
    let start = c.args.start in
    let work = c.args.work.now in
    let shape = c.in_ok-shape.shape in
    let s = of_shape ns j shape (search rules) in
    let fits = leb-true (start + (shape.size + shape.size)) (length work) (sym c.has_room.ensures ∙ c.if-not-has_room.false) in
    let old = map f work in
    let slots = map f c.split.new.slots in
    let size = ap (λ s. s.size) s.2 in
    let k : start + 2 * shape.size - start ≡ numbers ns + numbers ns = omega arith in
    let halves = c.split.ensures ∙ ap₂ (both_halves c.args.first) s.2 (slots_mean f start shape.size (start + 2 * shape.size - start) work (omega arith) ∙ ap (λ n. part start n old) size) in
    subst (Halved c.args.first ns j start old) (sym (put_means f start (start + 2 * shape.size - start) work c.split.new.slots ∙ ap (λ k. put_mid start k old slots) k))
    (halved_is c.args.first ns j start old slots (omega (arith, length-map work f)) halves)

pub returns-clause-outside : goal.returns-clause-outside
returns-clause-outside g c =
    let ns = c.args.degrees.now in
    let shape = c.in_ok-shape.shape in
    let s = of_shape ns c.args.axis shape (search rules) in
    let size = ap (λ s. s.size) s.2 in
    let fits = leb-true (c.args.start + (shape.size + shape.size)) (length c.args.work.now) (sym c.has_room.ensures ∙ c.if-not-has_room.false) in
    outside_is c.args.start (c.args.start + 2 * shape.size - c.args.start) (c.args.start + (numbers ns + numbers ns)) c.args.work.now c.split.new.slots (omega arith) (omega arith) (omega (arith, length-take (c.args.start + 2 * shape.size - c.args.start) (drop c.args.start c.args.work.now), length-drop c.args.start c.args.work.now))
