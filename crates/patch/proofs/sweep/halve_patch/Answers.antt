use Rattle.std.proofs.Common.{◌≡◌, ℕ, ◌+◌, ◌-◌, ◌*◌, ◌<◌, map, length, take, drop, sym, ap, ◌∙◌, subst, ap₂, arith}
use Rattle.std.proofs.lemmas.List.{length-take, length-drop, length-map}
use Rattle.std.proofs.lemmas.List.FromFn.{fill_by_all}
use Rattle.std.proofs.lemmas.List.Sums.{AllPass-from_list_all}
use borrow.Rule.Slice.PartMut.{put_mid}
use Rattle.algebra.specs.Pair.{pairs}
use Rattle.number.specs.Limits.{may_grow}
use Rattle.patch.specs.Sweeps.{pair_at, half_at, half_of}
use Rattle.patch.proofs.Stretches.{part_at, put_at, put_kept}
use Rattle.patch.proofs.Rows.{Grows, row_end, next_row}
use Rattle.patch.proofs.Blocks.{done_more, block_same}
use Rattle.patch.proofs.sweep.halve_patch.Goals as goal

pub halve_block-requires-clause-small : goal.halve_block-requires-clause-small
halve_block-requires-clause-small g c = λ p l.
    let m = g.K.Number in
    let n = c.from.result in
    let size : ℕ = (n + 1) * c.args.shape.stride in
    let first : ℕ = c.loop-b.b * size in
    let k : (c.loop-b.b + 1) * size - first ≡ size = omega (arith, next_row size c.loop-b.b) in
    let old = pair_at (map m.means c.args.patch.now) in
    let len : p < size = omega (arith, length-take ((c.loop-b.b + 1) * size - first) (drop first c.loop-b.patch)) in
    let w = row_end size c.loop-b.b c.args.shape.blocks c.loop-b-test.true in
    let all : length c.args.patch.now ≡ c.args.shape.blocks * size = c.requires.whole ∙ ap (λ n. c.args.shape.blocks * ((n + 1) * c.args.shape.stride)) (sym c.from.ensures) in
    subst (Grows m.limit n) (sym (c.loop-b.invariant.old (first + p) (omega arith)) ∙ sym (part_at m.means first ((c.loop-b.b + 1) * size - first) c.loop-b.patch p (omega arith)))
    (subst (λ n. Grows m.limit n (old (first + p))) (sym c.from.ensures)
    (AllPass-from_list_all (may_grow m.limit c.args.shape.degree) (map m.means c.args.patch.now) c.requires.small (first + p) pairs.nought (omega (arith, length-map c.args.patch.now m.means))))

pub loop-b-preserved : goal.loop-b-preserved
loop-b-preserved g c =
    let m = g.K.Number in
    let h = c.args.half in
    let n = c.from.result in
    let s = c.args.shape.stride in
    let size : ℕ = (n + 1) * s in
    let first : ℕ = c.loop-b.b * size in
    let k : ℕ = (c.loop-b.b + 1) * size - first in
    let e : k ≡ size = omega (arith, next_row size c.loop-b.b) in
    let w = row_end size c.loop-b.b c.args.shape.blocks c.loop-b-test.true in
    let all : length c.args.patch.now ≡ c.args.shape.blocks * size = c.requires.whole ∙ ap (λ n. c.args.shape.blocks * ((n + 1) * s)) (sym c.from.ensures) in
    let patch = c.loop-b.patch in
    let block = c.halve_block.new.block in
    let len : length (take k (drop first patch)) ≡ k = simp (length-take, length-drop) (omega arith) in
    let o = put_kept m.means first k patch block (omega arith) (omega arith) in
    done_more h n s (pair_at (map m.means c.args.patch.now)) c.loop-b.b (pair_at (map m.means patch)) (pair_at (map m.means (put_mid first k patch block))) c.loop-b.invariant
    (λ q l.
    put_at m.means first k patch block (omega arith) (omega arith) q (omega arith) ∙ c.halve_block.ensures q (omega arith)
    ∙ block_same h n s (pair_at (map m.means (take k (drop first patch)))) (λ q. pair_at (map m.means patch) (first + q)) (λ q b. part_at m.means first k patch q (omega arith)) q l)
    (λ p l. o.0 p l, λ p l. o.1 p (omega arith))

pub returns : goal.returns
returns g c =
    let f = g.K.Number.means in
    let h = c.args.half in
    let s = c.args.shape.stride in
    let b : c.loop-b.b ≡ c.args.shape.blocks = omega arith in
    let old = map f c.args.patch.now in
    let new = map f c.loop-b.patch in
    let size : length c.args.patch.now ≡ c.loop-b.b * ((c.from.result + 1) * s) = c.requires.whole ∙ ap₂ (λ b n. b * ((n + 1) * s)) (sym b) (sym c.from.ensures) in
    fill_by_all (half_at h c.from.result s (pair_at old)) new (length old) pairs.nought (omega (arith, length-map c.args.patch.now f, length-map c.loop-b.patch f)) (λ p l. c.loop-b.invariant.new p (omega (arith, length-map c.args.patch.now f)))
    ∙ ap (λ n. half_of h n s old) c.from.ensures
