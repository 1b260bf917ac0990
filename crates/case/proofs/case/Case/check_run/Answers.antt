use Rattle.std.proofs.Common.{◌≡◌, true, sym, ◌∙◌, rules}
use Rattle.search.specs.Calls.{is_run}
use Rattle.case.proofs.Ran.{refused_room, not_refused}
use Rattle.case.proofs.Newest.{waits_unless_empty}
use Rattle.case.proofs.case.Case.check_run.Goals as goal

pub returns-then-not-has_room : goal.returns-then-not-has_room
returns-then-not-has_room g c =
    let k = c.args.self.now in
    let n : is_run c.args.n ≡ true = search rules in
    let w = waits_unless_empty _ _ c.is_empty.ensures c.if-is_empty.false in
    λ work. refused_room k work c.args.length c.args.n n w (sym c.has_room.ensures ∙ c.if-not-has_room.true)

pub returns : goal.returns
returns g c =
    let k = c.args.self.now in
    let n : is_run c.args.n ≡ true = search rules in
    let w = waits_unless_empty _ _ c.is_empty.ensures c.if-is_empty.false in
    λ work. not_refused k work c.args.length c.args.n n w (sym c.has_room.ensures ∙ c.if-not-has_room.false)
