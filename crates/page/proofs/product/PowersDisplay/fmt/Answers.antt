-- A power that is not left out is written behind its sign, and leads no power after it.
use Rattle.std.proofs.Common.{◌≡◌, ℕ, ◌+◌, ◌<◌, Bool, false, cond, ◌&&◌, eqb, List, [], ◌∷◌, ◌++◌, length, get_or, drop, sym, ap, ◌∙◌, codes, add-one, drop-cons, rules}
use Rattle.std.specs.Fmt.{HasWritten}
use Rattle.std.proofs.lemmas.Bool.{ne_eqb}
use Rattle.page.specs.Text.{power_text, powers_text}
use Rattle.page.proofs.SoFar.{so_far_more}
use Rattle.page.proofs.product.PowersDisplay.fmt.Goals as goal

abbrev behind_sign : Bool → ℕ → ℕ → List ℕ
behind_sign leads j e = cond leads (power_text j e) (codes "*" ++ power_text j e)

and_false : (b : Bool) → (b && false) ≡ false
and_false b = search rules

one_more : (leads : Bool) (es : List ℕ) (j : ℕ) → j < length es → (get_or es j 0 ≡ 0 → ⊥) → powers_text leads j (drop j es) ≡ behind_sign leads j (get_or es j 0) ++ powers_text false (j + 1) (drop (j + 1) es)
one_more leads es j h e =
    let no : eqb (get_or es j 0) 0 ≡ false = ne_eqb (get_or es j 0) 0 e in
    ap (powers_text leads j) (drop-cons es j 0 h ∙ ap (λ (k : ℕ). get_or es j 0 ∷ drop k es) (sym (add-one j)))
    ∙ ap (λ (b : Bool). cond b [] (behind_sign leads j (get_or es j 0)) ++ powers_text (leads && b) (j + 1) (drop (j + 1) es)) no
    ∙ ap (λ (b : Bool). behind_sign leads j (get_or es j 0) ++ powers_text b (j + 1) (drop (j + 1) es)) (and_false leads)

pub loop-axis-preserved : goal.loop-axis-preserved
loop-axis-preserved g c = λ plain.
    let es = c.args.self.now.exponents in
    let j = c.loop-axis.axis in
    let h : j < length es = search rules in
    let s = c.loop-axis.invariant plain in
    let put : HasWritten g.W.Write.write_str_gives c.loop-axis.f (behind_sign c.loop-axis.leads j (get_or es j 0)) c.write.new.self = search rules in
    so_far_more _ _ _ _ _ _ _ _ s (one_more c.loop-axis.leads es j h c.if-exponent-eq0.false) put
