use Rattle.std.proofs.Common.{◌≡◌, ℕ, ◌+◌, ◌<◌, List, ◌++◌, map, length, sym, ap, ◌∙◌, subst, arith}
use Rattle.algebra.specs.Pair.{Pair, Within}
use Rattle.patch.specs.Sweeps.{pair_at}
use Rattle.patch.proofs.Stretches.{joined_low, joined_high}
use Rattle.patch.proofs.Rows.{both}
use Rattle.patch.proofs.sweep.add_beside.Goals as goal

module _ {K : Type 0} (f : K → Pair) (two low high : List K) (s : ℕ) (value : two ≡ low ++ high) (len : length low ≡ s) where
  low_at : (i : ℕ) → i < s → pair_at (map f two) i ≡ pair_at (map f low) i
  low_at i l = ap (λ zs. pair_at (map f zs) i) value ∙ joined_low f low high i (omega arith)

  high_at : (i : ℕ) → pair_at (map f two) (s + i) ≡ pair_at (map f high) i
  high_at i = ap (λ zs. pair_at (map f zs) (s + i)) value ∙ joined_high f low high s i len

pub add_row-requires-clause-small : goal.add_row-requires-clause-small
add_row-requires-clause-small g c i l =
    let f = g.K.Number.means in
    let low = c.split_at_mut-low.result.0.now in
    let high = c.split_at_mut-low.result.1.now in
    let e = c.split_at_mut-low.ensures in
    let k : i < c.args.stride = omega arith in
    let small = rw c.in-Lower.is at (c.requires.small i k) in
    subst (Within g.K.Number.limit) (both (high_at f c.args.two.now low high c.args.stride e.value e.front_len i) (low_at f c.args.two.now low high c.args.stride e.value e.front_len i k)) small

pub add_row-requires-in-Upper-clause-small : goal.add_row-requires-in-Upper-clause-small
add_row-requires-in-Upper-clause-small g c i l =
    let f = g.K.Number.means in
    let low = c.split_at_mut-low.result.0.now in
    let high = c.split_at_mut-low.result.1.now in
    let e = c.split_at_mut-low.ensures in
    let k : i < c.args.stride = omega arith in
    let small = rw c.in-Upper.is at (c.requires.small i k) in
    subst (Within g.K.Number.limit) (both (low_at f c.args.two.now low high c.args.stride e.value e.front_len i k) (high_at f c.args.two.now low high c.args.stride e.value e.front_len i)) small

pub returns-in-Lower-clause-sums : goal.returns-in-Lower-clause-sums
returns-in-Lower-clause-sums g c i l =
    let f = g.K.Number.means in
    let low = c.split_at_mut-low.result.0.now in
    let high = c.split_at_mut-low.result.1.now in
    let e = c.split_at_mut-low.ensures in
    rw c.in-Lower.is
    (joined_high f low c.add_row.new.row c.args.stride i e.front_len ∙ c.add_row.ensures i (omega arith)
    ∙ both (sym (high_at f c.args.two.now low high c.args.stride e.value e.front_len i)) (sym (low_at f c.args.two.now low high c.args.stride e.value e.front_len i l)))

pub returns-in-Upper-clause-sums : goal.returns-in-Upper-clause-sums
returns-in-Upper-clause-sums g c i l =
    let f = g.K.Number.means in
    let low = c.split_at_mut-low.result.0.now in
    let high = c.split_at_mut-low.result.1.now in
    let e = c.split_at_mut-low.ensures in
    rw c.in-Upper.is
    (joined_low f c.add_row-in-Upper.new.row high i (omega arith) ∙ c.add_row-in-Upper.ensures i (omega arith)
    ∙ both (sym (low_at f c.args.two.now low high c.args.stride e.value e.front_len i l)) (sym (high_at f c.args.two.now low high c.args.stride e.value e.front_len i)))
