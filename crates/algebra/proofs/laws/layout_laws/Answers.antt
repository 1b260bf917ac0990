use Rattle.algebra.proofs.Pair.{pairs_laws}
use Rattle.algebra.proofs.Places.{place_below, index_of_place, place_of_index, index_is_index, neighbour, row_stays_in_patch}
use Rattle.algebra.proofs.Halves.{flat_half_is_half, flat_half_evaluates}
use Rattle.algebra.proofs.laws.layout_laws.Goals as goal

pub returns : goal.returns
returns c = record {
  place = λ ns ks w. (place_below ns ks w, index_of_place ns ks w);
  index = λ ns i h. (index_is_index ns i h, place_of_index ns i h);
  neighbour = λ ns ks j r w h. neighbour ns ks j w h r;
  row = row_stays_in_patch;
  half = flat_half_is_half pairs_laws;
  halves = flat_half_evaluates pairs_laws;
}
