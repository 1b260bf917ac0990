use Rattle.std.proofs.Common.{rules}
use Rattle.case.proofs.Untaken.{untaken_passes, passes_as_untaken}
use Rattle.case.proofs.making.untaken_ticket.Goals as goal

pub unwrap-requires : goal.unwrap-requires
unwrap-requires c = untaken_passes c.sized.result _ (search rules) c.sized.ensures

pub returns : goal.returns
returns c = passes_as_untaken c.sized.result _ (search rules) c.sized.ensures c.unwrap.result c.unwrap.ensures
