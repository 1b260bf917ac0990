use Rattle.std.proofs.Common.{◌≡◌, ℕ, ◌+◌, ◌-◌, ◌≤◌, map, sym, ◌∙◌, subst, add-one, arith}
use Rattle.algebra.specs.Pair.{Pair, Within}
use Rattle.patch.specs.Sweeps.{pair_at, added_row, spot, swept}
use Rattle.patch.proofs.Rows.{Grows, both, row_in, added_row_below, swept_grows, sum_within}
use Rattle.patch.proofs.Blocks.{block_halved}
use Rattle.patch.proofs.sweep.halve_block.Goals as goal

pub sweep-requires-clause-small : goal.sweep-requires-clause-small
sweep-requires-clause-small g c = λ u v i a b l.
    let m = g.K.Number in
    let n = c.args.rows.degree in
    let j = c.loop-j.j in
    let q : n ≡ (n - j) + j = omega arith in
    let Q : ℕ → Pair = λ r. pair_at (map m.means c.args.block.now) (spot c.args.rows r i) in
    let all : ((u : ℕ) → u ≤ n → Grows m.limit ((n - j) + j) (Q u)) = λ u a. let w = row_in c.args.rows.half n c.args.rows.stride u a in subst (λ k. Grows m.limit k (Q u)) q (c.requires.small (spot c.args.rows u i) (omega arith)) in
    subst (Within m.limit) (both (sym (c.loop-j.invariant u i a l)) (sym (c.loop-j.invariant v i b l)))
    (sum_within m.limit (n - j) (swept Q j u) (swept Q j v) (omega arith) (swept_grows m.limit n Q (n - j) j all u a) (swept_grows m.limit n Q (n - j) j all v b))

pub loop-j-preserved : goal.loop-j-preserved
loop-j-preserved g c = λ u i a l.
    let j = c.loop-j.j in
    rw add-one (c.sweep.ensures u i a l ∙ both (c.loop-j.invariant u i a l) (c.loop-j.invariant (added_row j u) i (added_row_below j u c.args.rows.degree a) l))

pub returns : goal.returns
returns g c = λ p l.
    let f = g.K.Number.means in
    let e : c.loop-j.j ≡ c.args.rows.degree = omega arith in
    let was = pair_at (map f c.args.block.now) in
    block_halved c.args.rows was (pair_at (map f c.loop-j.block))
    (λ u i a b. subst (λ j. pair_at (map f c.loop-j.block) (spot c.args.rows u i) ≡ swept (λ r. was (spot c.args.rows r i)) j u) e (c.loop-j.invariant u i a b)) p (omega arith)
