use Rattle.std.proofs.Common.{length, sym, ap, ◌∙◌}
use Rattle.case.proofs.Newest.{as_many_newest}
use Rattle.case.proofs.waiting.Waiting.len.Goals as goal

pub returns-clause-count : goal.returns-clause-count
returns-clause-count c = sym (as_many_newest c.self.inside.len c.self.inside.records) ∙ ap length c.self.view_is
