use Rattle.std.proofs.Common.{sym, ◌∙◌, subst}
use Rattle.ticket.specs.Law.{content}
use Rattle.patch.specs.FirstPatch.{Summable}
use Rattle.patch.proofs.Summing.{summable, number_greater, number_less}
use Rattle.patch.proofs.first_patch.number_at.Goals as goal

pub sum-sum-requires : goal.sum-sum-requires
sum-sum-requires c =
    let t = c.args.ticket.now in
    subst (λ xs. Summable xs c.as_slice.result.now) (sym c.as_slice-axes.ensures.value)
    (subst (λ ts. Summable (content t.ticket).axes ts) (sym c.as_slice.ensures.value) (summable (content t.ticket) t.ticket.formed t.small))

pub returns-in-Less : goal.returns-in-Less
returns-in-Less c = c.neg.ensures ∙ number_less (content c.args.ticket.now.ticket) c.args.at _ _ c.as_slice-axes.ensures.value c.as_slice.ensures.value c.sum-sum.result c.sum-sum.ensures c.in-Less.is

pub returns-in-Greater : goal.returns-in-Greater
returns-in-Greater c = number_greater (content c.args.ticket.now.ticket) c.args.at _ _ c.as_slice-axes.ensures.value c.as_slice.ensures.value c.sum-sum.result c.sum-sum.ensures c.in-Greater.is
