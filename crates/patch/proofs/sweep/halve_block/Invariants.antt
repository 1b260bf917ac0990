use Rattle.std.proofs.Common.{◌≡◌, ℕ, ◌<◌, ◌≤◌, map}
use Rattle.patch.specs.Sweeps.{pair_at, spot, swept}
use Rattle.patch.proofs.sweep.halve_block.Given as goal

abbrev pub invariant-loop-j : goal.invariant-loop-j
invariant-loop-j g l =
    let was = pair_at (map g.K.Number.means l.initial.block) in
    (u i : ℕ) → u ≤ l.rows.degree → i < l.rows.stride → pair_at (map g.K.Number.means l.block) (spot l.rows u i) ≡ swept (λ r. was (spot l.rows r i)) l.j u
