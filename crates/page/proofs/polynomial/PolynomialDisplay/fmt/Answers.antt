-- The first term and those behind it are the whole sum.
use Rattle.std.proofs.Common.{◌≡◌, suc, true, List, ◌∷◌, length, sym, ap, ◌∙◌, arith, rules}
use Rattle.std.specs.Fmt.{HasWritten}
use Rattle.std.proofs.Output.{has_written_append, has_written_of_eq}
use Rattle.std.proofs.lemmas.Bool.{cond-false, ne_eqb}
use Rattle.ticket.specs.declared.records.Term.{Term}
use Rattle.page.specs.Text.{summand_text, terms_text, polynomial_text}
use Rattle.page.proofs.Behind.{listed}
use Rattle.page.proofs.polynomial.PolynomialDisplay.fmt.Goals as goal

some_terms : (ts rest : List Term) (t : Term) → ts ≡ t ∷ rest → terms_text ts ≡ polynomial_text ts
some_terms ts rest t e =
    ap terms_text e ∙ sym (ap polynomial_text e ∙ cond-false _ _ _ (ne_eqb (suc (length rest)) 0 (λ z. omega arith)))

pub returns-clause-writes : goal.returns-clause-writes
returns-clause-writes g c = λ plain ok.
    let ts = c.args.self.now.0.now in
    let t = c.in-Some.first.now in
    let rest = c.in-Some.rest.now in
    let first : HasWritten g.W.Write.write_str_gives c.args.f.now (summand_text true t) c.write.new.self = search rules in
    has_written_of_eq _ _ _ _ _
    (listed summand_text ts rest t c.loop-term.term-index c.in-Some.ensures.cases.0 c.loop-term-test.false ∙ some_terms ts rest t c.in-Some.ensures.cases.0)
    (has_written_append _ _ _ _ _ _ first (c.loop-term.invariant first.plain))
