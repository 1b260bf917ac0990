use Rattle.std.proofs.Common.{refl}
use Rattle.case.proofs.CeilingTable.{all_ceilings, ceiling_at}
use Rattle.case.proofs.case.Case.ceiling.Goals as goal

pub returns : goal.returns
unfolding all_ceilings
returns g c = ceiling_at _ refl c.args.self.now.depth c.args.self.now.bounded
