use Rattle.std.proofs.Common.{◌≡◌, true, false, eqb, map, length, sym, refl, ap, ◌∙◌, ap₂, arith}
use Rattle.std.proofs.lemmas.Bool.{eq-eqb, ne_eqb}
use Rattle.ticket.specs.Sizes.{degrees_of}
use Rattle.patch.specs.Corners.{ends_of}
use Rattle.patch.specs.FirstPatch.{turned}
use Rattle.patch.specs.Point.{sum_of}
use Rattle.search.specs.Search.{level, halvings_of}
use Rattle.case.specs.Records.{box_of}
use Rattle.case.specs.Judgement.{told}
use Rattle.case.specs.Model.{ticket_of, piece_of}
use Rattle.case.proofs.Standing.{axes, few_axes}
use Rattle.case.proofs.Lent.{turned_satisfies, halvings_lent, lowest_lent}
use Rattle.case.proofs.Found.{clear_is_found, violation_is_found, depth_is_found, choice_is_found}
use Rattle.case.proofs.case.Case.judge.Goals as goal

pub returns-then-all_satisfy : goal.returns-then-all_satisfy
returns-then-all_satisfy g c =
    let k = c.args.self.now in
    let b = map g.K.Number.means c.args.patch.now in
    let e = turned_satisfies c.turned-relation.result (turned (ticket_of k)).relation b c.all_satisfy.result true c.turned-relation.ensures c.all_satisfy.ensures.answer c.if-all_satisfy.true in
    record { answer = clear_is_found (ticket_of k) (g.C.Chooser.meaning c.args.chooser.now) k.depth (piece_of (ticket_of k) c.args.newest b) e; same = refl }

pub ends-ends-requires : goal.ends-ends-requires
ends-ends-requires g c = omega (arith, few_axes c.args.self.now, ap length c.as_slice-axes.ensures.value)

pub returns-in-Some : goal.returns-in-Some
returns-in-Some g c =
    let k = c.args.self.now in
    let b = map g.K.Number.means c.args.patch.now in
    let u = turned_satisfies c.turned-relation.result (turned (ticket_of k)).relation b c.all_satisfy.result false c.turned-relation.ensures c.all_satisfy.ensures.answer c.if-all_satisfy.false in
    let l = lowest_lent k c.as_slice-axes.result.now c.as_slice-axes.ensures.value c.as_slice-degrees.result.now c.args.newest c.turned-relation.result c.as_slice.result.now b c.broken_corner.result c.as_slice-degrees.ensures.value c.turned-relation.ensures (ap (map ends_of) c.as_slice.ensures.value ∙ c.ends-ends.ensures) c.broken_corner.ensures.answer in
    record { answer = violation_is_found (ticket_of k) (g.C.Chooser.meaning c.args.chooser.now) k.depth (piece_of (ticket_of k) c.args.newest b) (few_axes k) u c.broken_corner.result l c.in-Some.corner c.in-Some.is; same = refl }

pub returns-then-level-self : goal.returns-then-level-self
returns-then-level-self g c =
    let k = c.args.self.now in
    let b = map g.K.Number.means c.args.patch.now in
    let u = turned_satisfies c.turned-relation.result (turned (ticket_of k)).relation b c.all_satisfy.result false c.turned-relation.ensures c.all_satisfy.ensures.answer c.if-all_satisfy.false in
    let l = lowest_lent k c.as_slice-axes.result.now c.as_slice-axes.ensures.value c.as_slice-degrees.result.now c.args.newest c.turned-relation.result c.as_slice.result.now b c.broken_corner.result c.as_slice-degrees.ensures.value c.turned-relation.ensures (ap (map ends_of) c.as_slice.ensures.value ∙ c.ends-ends.ensures) c.broken_corner.ensures.answer in
    let v : level (box_of (axes k) c.args.newest) ≡ k.depth = sym (ap sum_of (halvings_lent k c.as_slice-axes.result.now c.as_slice-axes.ensures.value c.args.newest c.halvings-halvings.result.items c.halvings-halvings.ensures)) ∙ sym c.level-level.ensures ∙ c.if-level-self.true in
    record { answer = depth_is_found (ticket_of k) (g.C.Chooser.meaning c.args.chooser.now) k.depth (piece_of (ticket_of k) c.args.newest b) (few_axes k) u c.broken_corner.result l c.in_default.is (eq-eqb _ _ v); same = refl }

pub returns : goal.returns
returns g c =
    let k = c.args.self.now in
    let μ = g.C.Chooser.meaning c.args.chooser.now in
    let b = map g.K.Number.means c.args.patch.now in
    let lent = c.as_slice-axes.result.now in
    let all = c.as_slice-axes.ensures.value in
    let u = turned_satisfies c.turned-relation.result (turned (ticket_of k)).relation b c.all_satisfy.result false c.turned-relation.ensures c.all_satisfy.ensures.answer c.if-all_satisfy.false in
    let l = lowest_lent k lent all c.as_slice-degrees.result.now c.args.newest c.turned-relation.result c.as_slice.result.now b c.broken_corner.result c.as_slice-degrees.ensures.value c.turned-relation.ensures (ap (map ends_of) c.as_slice.ensures.value ∙ c.ends-ends.ensures) c.broken_corner.ensures.answer in
    let halved = halvings_lent k lent all c.args.newest c.halvings-halvings.result.items c.halvings-halvings.ensures in
    let v : c.level-level.result ≡ level (box_of (axes k) c.args.newest) = c.level-level.ensures ∙ ap sum_of halved in
    let deeper : eqb (level (box_of (axes k) c.args.newest)) k.depth ≡ false = ne_eqb _ _ (λ e. c.if-level-self.false (v ∙ e)) in
    let a =
    c.ask-axis.ensures.answer
    ∙ ap₂ (λ ds hs. μ (told ds hs c.level-level.result b)) (c.as_slice-degrees.ensures.value ∙ k.shaped) (c.as_slice-2.ensures.value ∙ halved)
    ∙ ap (λ n. μ (told (degrees_of (ticket_of k).axes) (halvings_of (box_of (axes k) c.args.newest)) n b)) v in
    record {
      answer = choice_is_found (ticket_of k) μ k.depth (piece_of (ticket_of k) c.args.newest b) (few_axes k) u c.broken_corner.result l c.in_default.is c.ask-axis.result deeper a;
      same = c.ask-axis.ensures.same;
    }
