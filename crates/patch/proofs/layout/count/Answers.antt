use Rattle.std.proofs.Common.{◌≡◌, ◌+◌, ◌*◌, ◌^◌, ◌≤◌, Bool, true, false, refl, ap, ◌∙◌, one-mul, arith, rules}
use Rattle.std.specs.Bool.{MatchBool}
use Rattle.std.specs.List.{fold}
use Rattle.algebra.specs.Layout.{numbers}
use Rattle.patch.proofs.Counting.{counted_is, counted_none, fold_is_numbers, fold_rises}
use Rattle.patch.proofs.layout.count.Goals as goal

matched : {A B P : Type 0} (w : Bool) → MatchBool w A B → (w ≡ true → A → P) → (w ≡ false → B → P) → P
matched true m f g = f refl m
matched false m f g = g refl m

pub returns : goal.returns
returns c =
    let h = c.try_fold.ensures.runs in
    let p = h.0 in
    let items = c.iter.ensures.runs p p.seen in
    let ns = c.args.degrees.now in
    let rest : p.from.rest.now ≡ ns = search rules in
    matched p.whole h.2
    (λ w t.
    let e = t.2 (λ b x. b * (x.now + 1)) (λ b x v r f' called goes. (search rules, search rules)) in
    let n : t.0 ≡ numbers ns = e ∙ items.5 (λ m n. m * (n + 1)) 1 w ∙ ap (fold (λ m n. m * (n + 1)) 1) rest ∙ fold_is_numbers 1 ns ∙ one-mul (numbers ns) in
    t.1 ∙ counted_is ns t.0 n (let some = t.1 in let inv = c.try_fold.type_inv in search rules))
    (λ w t.
    let last = t.3 in
    let e = last.9 (λ b x. b * (x.now + 1)) (λ b x v r f' called goes. (search rules, search rules)) in
    let called = last.7 in
    let large : 2 ^ 64 ≤ last.1 * (last.0.now + 1) = (let none = last.8 in search rules) in
    let most : fold (λ m n. m * (n + 1)) 1 p.from.rest.now ≡ numbers ns = ap (fold (λ m n. m * (n + 1)) 1) rest ∙ fold_is_numbers 1 ns ∙ one-mul (numbers ns) in
    t.1 ∙ counted_none ns (omega (arith, e.0, large, most, items.7 (λ m n. m * (n + 1)) 1 fold_rises)))
