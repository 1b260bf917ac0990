use Rattle.std.proofs.Common.{◌+◌, ◌^◌, ◌<◌, rules}
use Rattle.case.proofs.Newest.{waits_unless_empty}
use Rattle.case.proofs.Ran.{word_while_waiting}
use Rattle.case.proofs.Told.{few_aside}
use Rattle.case.proofs.case.Case.word.Goals as goal

pub returns-then-not-is_empty : goal.returns-then-not-is_empty
returns-then-not-is_empty g c = λ work. word_while_waiting c.args.self.now work (waits_unless_empty _ _ c.is_empty.ensures c.if-not-is_empty.true)

pub overflow_add-self : goal.overflow_add-self
overflow_add-self g c = let h : c.args.self.now.aside_depth + c.args.self.now.aside_range < 2 ^ 32 = few_aside c.args.self.now in search rules
