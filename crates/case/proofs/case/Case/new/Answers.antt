use Rattle.case.proofs.Untaken.{untaken_stands}
use Rattle.case.proofs.case.Case.new.Goals as goal

pub returns-clause-stands : goal.returns-clause-stands
returns-clause-stands g c = λ work μ. untaken_stands g.K.Number.limit μ _ 2 c.empty.result work c.empty.ensures
