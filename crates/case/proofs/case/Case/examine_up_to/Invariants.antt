use Rattle.std.proofs.Common.{◌≡◌, ◌+◌, ◌-◌, ◌*◌, ◌≤◌, map, length}
use Rattle.ticket.specs.Sizes.{patch_count}
use Rattle.search.specs.Search.{steps}
use Rattle.case.specs.Model.{ticket_of, model}
use Rattle.case.proofs.case.Case.examine_up_to.Given as goal

abbrev pub invariant-loop-done : goal.invariant-loop-done
invariant-loop-done g l =
    let c = ticket_of l.initial.self in
    let f = g.K.Number.means in
    let μ = g.C.Chooser.meaning l.initial.chooser in
    (steps c g.K.Number.limit μ (l.n - l.done) (model l.self (map f l.work)) ≡ steps c g.K.Number.limit μ l.n (model l.initial.self (map f l.initial.work)))
    × (ticket_of l.self ≡ c)
    × (g.C.Chooser.meaning l.chooser ≡ μ)
    × (l.self.examined ≡ l.initial.self.examined + l.done)
    × (l.done ≤ l.n)
    × ((l.self.depth + 3) * patch_count c.axes ≤ length l.work)
