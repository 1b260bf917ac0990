-- The worked searches, by computation, and what the law says of them.
use Rattle.std.proofs.Common.{◌≡◌, ◌%◌, ◌<◌, max, List, [], ◌∷◌, length, refl, ap, subst, mod-lt, arith}
use Rattle.ticket.specs.WellFormed.{Formed}
use Rattle.ticket.specs.declared.records.Relation.TheVariants.{AtLeast}
use Rattle.patch.specs.Box.{Coordinate, point_of}
use Rattle.patch.specs.Meaning.{Refutes}
use Rattle.patch.proofs.Examples.{worked_patches}
use Rattle.chooser.specs.Alternating.{alternating}
use Rattle.chooser.specs.Choice.{Picks}
use Rattle.chooser.proofs.Examples.{worked_choices}
use Rattle.ticket.specs.Faults.{each_checked}
use Rattle.ticket.specs.Sizes.{sizing}
use Rattle.search.specs.Search.{whole, half_of, is_clear, violation, may_halve}
use Rattle.search.specs.Calls.{Reply, pointed, has_room}
use Rattle.search.specs.Examples.{touching, crossing, course, WorkedTickets, WorkedPoints, WorkedCalls}
use Rattle.search.specs.declared.call.Call.TheVariants.{Run}
use Rattle.search.proofs.Law.{law_stands}

pub worked_tickets : WorkedTickets
unfolding whole half_of is_clear violation may_halve has_room sizing each_checked
worked_tickets = record {
  patches = worked_patches;
  choices = worked_choices;
  touching_open = refl;
  touching_holds = refl;
  touching_too_large = refl;
  touching_just_fits = refl;
  crossing_fails = refl;
  crossing_point = refl;
  nearing_open = refl;
  constant_open = refl;
  constant_fails = refl;
  constant_point = refl;
  product_holds = refl;
  product_fails = refl;
  product_point = refl;
  quadrant_open = refl;
  falling_fails = refl;
  falling_point = refl;
  drifting_holds = refl;
  sinking_holds = refl;
  drifting_refused = refl;
  just_halved = refl;
  not_halved = refl;
}

alternating_picks : Picks alternating
alternating_picks q h =
    let n = length q.degrees in
    let m : max 1 n ≡ n = omega arith in
    subst (λ k. q.depth % max 1 n < k) m (mod-lt q.depth (omega arith))

touching_formed : Formed (touching AtLeast)
touching_formed = refl

crossing_formed : Formed crossing
crossing_formed = refl

same_point : (reply : Reply) (xs ys : List Coordinate) → reply ≡ pointed xs → reply ≡ pointed ys → xs ≡ ys
same_point reply xs ys e f = cc

pub worked_points : WorkedPoints
worked_points = record {
  touching_everywhere = (law_stands (touching AtLeast) alternating touching_formed alternating_picks).holds_is_true (course 1 (Run 9 ∷ [])) (ap (λ v. v.word) worked_tickets.touching_holds);
  crossing_somewhere =
      let s = (law_stands crossing alternating crossing_formed alternating_picks).fails_is_false (course 1 (Run 9 ∷ [])) (ap (λ v. v.word) worked_tickets.crossing_fails) in
      subst (λ xs. Refutes crossing (point_of xs)) (same_point _ _ _ s.answered worked_tickets.crossing_point) s.refutes;
}

pub worked_calls : WorkedCalls
unfolding whole half_of is_clear violation may_halve has_room
worked_calls = record {
  session = refl;
  deepening = refl;
  refusals = refl;
  too_short = refl;
  not_taken = refl;
  taken = refl;
  run_count_first = refl;
  not_running_first = refl;
  not_open_first = refl;
  not_deeper_first = refl;
  longest_run = refl;
  longer_run = refl;
  untaken_run = λ limit μ. refl;
  untaken_open = λ limit μ. refl;
}
