use Rattle.std.proofs.Common.{◌≡◌, List, [], ◌∷◌, length, None, ap, ap₂, ◌∙◌, arith}
use Rattle.search.specs.Search.{Piece, Search}
use Rattle.case.specs.Records.{whole_record}
use Rattle.case.specs.Model.{ticket_of}
use Rattle.case.proofs.Standing.{few_axes}
use Rattle.case.proofs.Starting.{start_is_sound, whole_waits_first}
use Rattle.case.proofs.case.Case.restart.Goals as goal

pub push-requires : goal.push-requires
push-requires g c =
    omega (arith, ap length c.clear.ensures)

pub invariant_of-self-clause-sound : goal.invariant_of-self-clause-sound
invariant_of-self-clause-sound g c =
    let k = c.args.self.now in
    start_is_sound (ticket_of k).axes (few_axes k) c.args.depth c.push.new.self c.whole-whole.result c.whole-whole.ensures (c.push.ensures ∙ ap (λ rs. c.whole-whole.result ∷ rs) c.clear.ensures)

pub returns-clause-starts : goal.returns-clause-starts
returns-clause-starts g c =
    let k = c.args.self.now in
    let e : c.push.new.self ≡ whole_record ∷ [] = c.push.ensures ∙ ap₂ ◌∷◌ c.whole-whole.ensures c.clear.ensures in
    λ work f. ap {A = List Piece} {B = Search} (λ xs. record { depth = c.args.depth; waiting = xs; examined = 0; aside_depth = 0; aside_range = 0; corner = None }) (whole_waits_first (ticket_of k) (few_axes k) k.size c.push.new.self work e f)
