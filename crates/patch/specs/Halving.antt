-- Halving a patch inside a workspace: the two halves stand side by side afterwards, the one that is looked at first behind the other.
use Rattle.std.specs.Prelude.{◌≡◌, ℕ, ◌+◌, ◌^◌, Bool, cond, ◌&&◌, List, ◌++◌, length, take, drop, Ok, Err, Result, nat_le, nat_lt, slice_index}
use Rattle.algebra.specs.Pair.{Pair, pairs}
use Rattle.algebra.specs.Form.{other}
use Rattle.algebra.specs.Layout.{numbers, flat_half}
use Rattle.algebra.specs.declared.half.Half.{Half}
use Rattle.patch.specs.Judging.{all_grow}
use Rattle.patch.specs.declared.refusal.PatchRefusal.{PatchRefusal}
use Rattle.patch.specs.declared.refusal.PatchRefusal.TheVariants.{Axis, Room, Growth}
use Rattle.patch.specs.Sweeps.{half_of}
use Rattle.patch.specs.declared.shape.Shape.{Shape}

-- so many items from one place on
abbrev pub part : {A : Type 0} → ℕ → ℕ → List A → List A
part from count xs = take count (drop from xs)

-- there is such an axis, there is room for two patches, and every number of the patch may be doubled as often as the degree says
abbrev pub may_halve : ℕ → List ℕ → ℕ → ℕ → List Pair → Bool
may_halve limit ns j start work =
    nat_lt j (length ns) && (nat_le (start + (numbers ns + numbers ns)) (length work) && all_grow limit (slice_index ns j) (part start (numbers ns) work))

-- the same with the first refusal that applies; one of the axis too where no machine word tells how large the patch is
abbrev pub halving : ℕ → List ℕ → ℕ → ℕ → List Pair → Result (Unit {0}) PatchRefusal
halving limit ns j start work =
    cond (nat_lt j (length ns) && nat_lt (numbers ns) (2 ^ 64))
    (cond (nat_le (start + (numbers ns + numbers ns)) (length work))
    (cond (all_grow limit (slice_index ns j) (part start (numbers ns) work)) (Ok tt) (Err Growth))
    (Err Room))
    (Err Axis)

-- the patch at `start` is halved along axis j: the second half stands there, the first after it, and all else is as it was
pub record Halved (first : Half) (ns : List ℕ) (j start : ℕ) (old new : List Pair) : Type 0 where
  pub second_half : part start (numbers ns) new ≡ flat_half pairs (other first) ns j (part start (numbers ns) old)
  pub first_half : part (start + numbers ns) (numbers ns) new ≡ flat_half pairs first ns j (part start (numbers ns) old)
  pub before : take start new ≡ take start old
  pub after : drop (start + (numbers ns + numbers ns)) new ≡ drop (start + (numbers ns + numbers ns)) old

-- all items but those from one place to another are the very same
pub record Outside {A : Type 0} (from to : ℕ) (old new : List A) : Type 0 where
  pub before : take from new ≡ take from old
  pub after : drop to new ≡ drop to old

-- the halves of a patch in two slots, the one that is looked at first behind the other
abbrev pub both_halves : Half → Shape → List Pair → List Pair
both_halves first shape b = half_of (other first) shape.degree shape.stride b ++ half_of first shape.degree shape.stride b
