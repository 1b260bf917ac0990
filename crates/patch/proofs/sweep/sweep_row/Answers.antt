use Rattle.std.proofs.Common.{◌≡◌, ◌+◌, ◌-◌, ◌*◌, ◌^◌, ◌<◌, min, map, length, take, drop, sym, ap, ◌∙◌, subst, ap₂, arith, rules}
use Rattle.std.proofs.lemmas.List.{length-take, length-drop}
use borrow.Rule.Slice.PartMut.{put_mid}
use Rattle.algebra.specs.Pair.{Within}
use Rattle.algebra.specs.Form.{other}
use Rattle.patch.specs.Sweeps.{pair_at, row_of, Kept, spot, farther}
use Rattle.patch.proofs.Stretches.{part_at, put_at, put_kept}
use Rattle.patch.proofs.Rows.{both, row_in, row_is, row_before_is, two_fit, farther_below, only_farther, added_earlier, added_itself}
use Rattle.patch.proofs.sweep.sweep_row.Goals as goal

pub overflow_add-both : goal.overflow_add-both
overflow_add-both g c =
    let h : length c.args.block.now < 2 ^ 64 = search rules in
    let f = two_fit c.args.rows.degree c.args.rows.stride c.args.u c.min-both.result (omega arith) c.requires.row c.args.rows.half (c.min-both.ensures ∙ ap₂ min c.start-to.ensures c.start.ensures) in
    record { fits = omega arith }

pub slice_bounds-add_beside-end : goal.slice_bounds-add_beside-end
slice_bounds-add_beside-end g c =
    let f = two_fit c.args.rows.degree c.args.rows.stride c.args.u c.min-both.result (omega arith) c.requires.row c.args.rows.half (c.min-both.ensures ∙ ap₂ min c.start-to.ensures c.start.ensures) in
    omega arith

pub add_beside-requires-clause-small : goal.add_beside-requires-clause-small
add_beside-requires-clause-small g c = λ i l.
    let m = g.K.Number in
    let s = c.args.rows.stride in
    let h = c.args.rows.half in
    let n = c.args.rows.degree in
    let at = c.min-both.result in
    let e = c.min-both.ensures ∙ ap₂ min c.start-to.ensures c.start.ensures in
    let old = pair_at (map m.means c.args.block.now) in
    let k : at + 2 * s - at ≡ 2 * s = omega arith in
    let x = farther_below h s i l in
    let y = farther_below (other h) s i l in
    let a = part_at m.means at (at + 2 * s - at) c.args.block.now (farther h s i) (omega arith) in
    let b = part_at m.means at (at + 2 * s - at) c.args.block.now (farther (other h) s i) (omega arith) in
    subst (Within m.limit)
    (both (ap old (row_is n s c.args.u at (omega arith) c.requires.row h e i) ∙ sym a)
    (ap (λ v. old (row_of h n v * s + i)) (added_earlier c.args.j c.args.u c.if-j-u.true) ∙ ap old (row_before_is n s c.args.u at (omega arith) c.requires.row h e i) ∙ sym b))
    (c.requires.small i l)

pub double_row-requires : goal.double_row-requires
double_row-requires g c = λ i l.
    let m = g.K.Number in
    let s = c.args.rows.stride in
    let at = c.start-to.result in
    let old = pair_at (map m.means c.args.block.now) in
    let w = row_in c.args.rows.half c.args.rows.degree s c.args.u c.requires.row in
    let k : i < at + s - at = omega (arith, length-take (at + s - at) (drop at c.args.block.now), length-drop at c.args.block.now) in
    let a = part_at m.means at (at + s - at) c.args.block.now i k in
    let x : old (spot c.args.rows c.args.u i) ≡ pair_at (map m.means (take (at + s - at) (drop at c.args.block.now))) i = ap (λ p. old (p + i)) (sym c.start-to.ensures) ∙ sym a in
    subst (Within m.limit) (both x (ap (λ v. old (spot c.args.rows v i)) (added_itself c.args.j c.args.u c.if-j-u.false) ∙ x)) (c.requires.small i (omega arith))

pub returns-then-j-u-clause-sums : goal.returns-then-j-u-clause-sums
returns-then-j-u-clause-sums g c = λ i l.
    let m = g.K.Number in
    let s = c.args.rows.stride in
    let h = c.args.rows.half in
    let n = c.args.rows.degree in
    let at = c.min-both.result in
    let e = c.min-both.ensures ∙ ap₂ min c.start-to.ensures c.start.ensures in
    let block = c.args.block.now in
    let old = pair_at (map m.means block) in
    let two = c.add_beside.new.two in
    let k : at + 2 * s - at ≡ 2 * s = omega arith in
    let f = two_fit n s c.args.u at (omega arith) c.requires.row h e in
    let x = farther_below h s i l in
    let y = farther_below (other h) s i l in
    let a = part_at m.means at (at + 2 * s - at) block (farther h s i) (omega arith) in
    let b = part_at m.means at (at + 2 * s - at) block (farther (other h) s i) (omega arith) in
    let p = row_is n s c.args.u at (omega arith) c.requires.row h e i in
    let q = row_before_is n s c.args.u at (omega arith) c.requires.row h e i in
    ap (pair_at (map m.means (put_mid at (at + 2 * s - at) block two))) p
    ∙ put_at m.means at (at + 2 * s - at) block two (omega arith) (omega arith) (farther h s i) (omega arith)
    ∙ c.add_beside.ensures.sums i l
    ∙ both (a ∙ ap old (sym p)) (b ∙ ap old (sym q) ∙ ap (λ v. old (spot c.args.rows v i)) (sym (added_earlier c.args.j c.args.u c.if-j-u.true)))

pub returns-then-j-u-clause-kept : goal.returns-then-j-u-clause-kept
returns-then-j-u-clause-kept g c =
    let m = g.K.Number in
    let s = c.args.rows.stride in
    let h = c.args.rows.half in
    let n = c.args.rows.degree in
    let at = c.min-both.result in
    let e = c.min-both.ensures ∙ ap₂ min c.start-to.ensures c.start.ensures in
    let block = c.args.block.now in
    let two = c.add_beside.new.two in
    let k : at + 2 * s - at ≡ 2 * s = omega arith in
    let f = two_fit n s c.args.u at (omega arith) c.requires.row h e in
    let new = pair_at (map m.means (put_mid at (at + 2 * s - at) block two)) in
    let old = pair_at (map m.means block) in
    let o = put_kept m.means at (at + 2 * s - at) block two (omega arith) (omega arith) in
    let kept : Kept at (at + 2 * s) new old = (λ p l. o.0 p l, λ p l. o.1 p (omega arith)) in
    let far = only_farther h s at new old kept
    (λ i l.
    let y = farther_below (other h) s i l in
    put_at m.means at (at + 2 * s - at) block two (omega arith) (omega arith) (farther (other h) s i) (omega arith) ∙ c.add_beside.ensures.kept i l ∙ part_at m.means at (at + 2 * s - at) block (farther (other h) s i) (omega arith)) in
    let p = row_is n s c.args.u at (omega arith) c.requires.row h e 0 in
    let q = row_is n s c.args.u at (omega arith) c.requires.row h e s in
    (λ r l. far.0 r (omega arith), λ r l. far.1 r (omega arith))

pub returns-else-j-u-clause-sums : goal.returns-else-j-u-clause-sums
returns-else-j-u-clause-sums g c = λ i l.
    let m = g.K.Number in
    let s = c.args.rows.stride in
    let at = c.start-to.result in
    let block = c.args.block.now in
    let row = c.double_row.new.row in
    let old = pair_at (map m.means block) in
    let w = row_in c.args.rows.half c.args.rows.degree s c.args.u c.requires.row in
    let a : pair_at (map m.means (take (at + s - at) (drop at block))) i ≡ old (spot c.args.rows c.args.u i) = part_at m.means at (at + s - at) block i (omega arith) ∙ ap (λ p. old (p + i)) c.start-to.ensures in
    let len : length (take (at + s - at) (drop at block)) ≡ at + s - at = simp (length-take, length-drop) (omega arith) in
    ap (λ p. pair_at (map m.means (put_mid at (at + s - at) block row)) (p + i)) (sym c.start-to.ensures)
    ∙ put_at m.means at (at + s - at) block row (omega arith) (omega arith) i (omega arith)
    ∙ c.double_row.ensures i (omega arith)
    ∙ both a (a ∙ ap (λ v. old (spot c.args.rows v i)) (sym (added_itself c.args.j c.args.u c.if-j-u.false)))

pub returns-else-j-u-clause-kept : goal.returns-else-j-u-clause-kept
returns-else-j-u-clause-kept g c =
    let m = g.K.Number in
    let s = c.args.rows.stride in
    let at = c.start-to.result in
    let block = c.args.block.now in
    let w = row_in c.args.rows.half c.args.rows.degree s c.args.u c.requires.row in
    let len : length (take (at + s - at) (drop at block)) ≡ at + s - at = simp (length-take, length-drop) (omega arith) in
    let o = put_kept m.means at (at + s - at) block c.double_row.new.row (omega arith) (omega arith) in
    (λ p l. o.0 p (omega arith), λ p l. o.1 p (omega arith))
