-- The search that a case and its workspace stand for.
use Rattle.std.specs.Prelude.{ℕ, ◌*◌, List, [], ◌∷◌, map, length, Ok, Err, Option, Result}
use Rattle.std.specs.Option.{option_map}
use Rattle.algebra.specs.Pair.{Pair}
use Rattle.number.specs.declared.number.Number.{Ghosts}
use Rattle.ticket.specs.Law.{content}
use Rattle.ticket.specs.WellFormed.{Content}
use Rattle.ticket.specs.declared.records.Axis.{Axis}
use Rattle.patch.specs.Box.{Coordinate, coordinates}
use Rattle.patch.specs.Corners.{corner_of}
use Rattle.patch.specs.Halving.{part}
use Rattle.search.specs.Points.{means}
use Rattle.search.specs.Search.{Piece, Search}
use Rattle.search.specs.Calls.{Reply, ran, deepened, pointed, refused}
use Rattle.search.specs.declared.call.CallRefusal.{CallRefusal}
use Rattle.search.specs.declared.coordinate.Coordinate.{Coordinate as Held}
use Rattle.arrayvec.specs.ArrayVec.{ArrayVec}
use Rattle.case.specs.Records.{box_of}
use Rattle.case.specs.declared.record.Record.{Record}
use Rattle.case.specs.declared.case.Case.{Case}

abbrev pub ticket_of : {K : Type 0} {N : Ghosts K} → Case K N → Content
ticket_of k = content k.ticket.ticket

-- of m axes: the box of a record, with the patch in slot i of the workspace
abbrev pub piece_in : ℕ → ℕ → Record → ℕ → List Pair → Piece
piece_in m size r i work = record { box = box_of m r; patch = part (i * size) size work }

-- the oldest box has slot 0
abbrev pub pieces : ℕ → ℕ → List Record → List Pair → List Piece
pieces m size [] work = []
pieces m size (r ∷ rs) work = piece_in m size r (length rs) work ∷ pieces m size rs work

-- the point of the corner with a number
abbrev pub corner_in : List Axis → Record → Option ℕ → Option (List Coordinate)
corner_in axes box corner = option_map (λ n. coordinates axes (box_of (length axes) box) (corner_of (length axes) n)) corner

abbrev pub model : {K : Type 0} {N : Ghosts K} → Case K N → List Pair → Search
model k work = record {
  depth = k.depth;
  waiting = pieces (length (ticket_of k).axes) k.size k.waiting work;
  examined = k.examined;
  aside_depth = k.aside_depth;
  aside_range = k.aside_range;
  corner = corner_in (ticket_of k).axes k.found k.corner;
}

-- a box with this patch
abbrev pub piece_of : Content → Record → List Pair → Piece
piece_of c r patch = record { box = box_of (length c.axes) r; patch = patch }

-- ---- what a run, a deepening and a point answer
abbrev pub run_reply : Result ℕ CallRefusal → Reply
run_reply (Ok n) = ran n
run_reply (Err why) = refused why

abbrev pub deepen_reply : Result ℕ CallRefusal → Reply
deepen_reply (Ok d) = deepened d
deepen_reply (Err why) = refused why

abbrev pub point_reply : Result (ArrayVec Held) CallRefusal → Reply
point_reply (Ok xs) = pointed (map means xs.items)
point_reply (Err why) = refused why
