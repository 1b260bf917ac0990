use Rattle.std.proofs.Common.{◌≡◌, nat_abs, arith}
use borrow.Author.Differences.{ints}
use Rattle.std.proofs.lemmas.Int.{to_z-of_z}
use Rattle.std.proofs.lemmas.Bool.Decides.{nat_tests}
use Rattle.number.proofs.Growth.{room_by_quotient, room_of_zero}
use Rattle.number.proofs.word.has_room.Goals as goal

pub returns-then-n-lt62 : goal.returns-then-n-lt62
returns-then-n-lt62 c =
    let fits = c.ranges.x in
    let size : c.unsigned_abs.result ≡ nat_abs c.args.x = simp to_z-of_z at c.unsigned_abs.ensures.value in
    let room = room_by_quotient c.args.n c.args.x in
    grind (arith, nat_tests, room.0, room.1)

pub returns-else-n-lt62 : goal.returns-else-n-lt62
returns-else-n-lt62 c =
    let room = room_of_zero c.args.n c.args.x c.if-n-lt62.false in grind (arith, ints, nat_tests, room.0, room.1)
