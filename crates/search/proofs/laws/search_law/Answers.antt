use Rattle.search.proofs.Law.{law_stands}
use Rattle.search.proofs.laws.search_law.Goals as goal

pub returns : goal.returns
returns c = law_stands
