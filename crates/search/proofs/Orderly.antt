-- What holds of every state that a search reaches: of its waiting boxes, whatever patches stand beside them, and of its counts.
use Rattle.std.proofs.Common.{◌≡◌, ℕ, zero, suc, ◌+◌, ◌-◌, ◌^◌, ◌<◌, ◌≤◌, ◌⊎◌, List, [], ◌∷◌, map, length, get_or, None, sym, refl, ap, ◌∙◌, subst, inl, inr, pow-suc, add-one, arith}
use native.Mathlib.Nat.{sub-zero}
use lib.ListN.{length-map}
use Rattle.std.specs.List.{AllByRecursion}
use Rattle.algebra.specs.declared.half.Half.{Half}
use Rattle.ticket.specs.WellFormed.{Content, Formed}
use Rattle.patch.specs.Box.{Box, Placed, entire, whole_box, half_box}
use Rattle.patch.proofs.Box.{half_length, whole_is_placed, half_is_placed}
use Rattle.chooser.specs.Choice.{Meaning, Picks}
use Rattle.search.specs.Search.{Piece, Search, level, whole, half_of, axis_of, Outcome, settled, broken, too_deep, too_large, split, examine, start, counted, after, step, steps}
use Rattle.search.specs.Courses.{Course, reached, ceiling}
use Rattle.search.proofs.Keeping.{void, over, keep_step, keep_steps, keep}
use Rattle.search.proofs.Outcomes.{Splits, tells}
use Rattle.search.proofs.Pieces.{whole_has_box, half_has_box, whole_level, half_level, axis_is_there}

-- ---- the boxes of a full tree of this height
abbrev pub full : ℕ → ℕ
full zero = 1
full (suc n) = suc (full n + full n)

full_power : (n : ℕ) → suc (full n) ≡ 2 ^ suc n
full_power zero = refl
full_power (suc n) = rw pow-suc (omega (arith, full_power n))

pub full_is_ceiling : (n : ℕ) → full n ≡ ceiling n
full_is_ceiling n = rw add-one (omega (arith, full_power n))

pub full_some : (n : ℕ) → 0 < full n
full_some zero = omega arith
full_some (suc n) = omega arith

full_twice : (d n : ℕ) → n < d → full (d - n) ≡ suc (full (d - suc n) + full (d - suc n))
full_twice d n h = let e : d - n ≡ suc (d - suc n) = omega arith in rw e

-- ---- waiting boxes
-- a box that waits before so many older ones was halved at least as often, and no more often than the depth
pub record Waits (axes d older : ℕ) (box : Box) : Type 0 where
  pub part_for_each : length box ≡ axes
  pub placed : AllByRecursion Placed box
  pub shallow : level box ≤ d
  pub deep : older ≤ level box

abbrev pub Stacked : ℕ → ℕ → List Box → Type 0
Stacked m d [] = Unit {0}
Stacked m d (box ∷ boxes) = Waits m d (length boxes) box × Stacked m d boxes

pub stacked_few : (m d : ℕ) (boxes : List Box) → Stacked m d boxes → length boxes ≤ suc d
stacked_few m d [] h = omega arith
stacked_few m d (box ∷ boxes) h = omega (arith, h.0.shallow, h.0.deep)

-- the same of box i of those that wait, the newest first
pub waits_at : (m d : ℕ) (boxes : List Box) → Stacked m d boxes → (i : ℕ) → i < length boxes → Waits m d (length boxes - suc i) (get_or boxes i [])
waits_at m d [] h i l = absurd (omega arith)
waits_at m d (box ∷ boxes) h zero l = let e : length boxes ≡ suc (length boxes) - 1 = omega arith in subst (λ n. Waits m d n box) e h.0
waits_at m d (box ∷ boxes) h (suc i) l =
    let e : length boxes - suc i ≡ suc (length boxes) - suc (suc i) = omega arith in
    subst (λ n. Waits m d n (get_or boxes i [])) e (waits_at m d boxes h.1 i (omega arith))

pub stacked_from : (m d : ℕ) (boxes : List Box) → ((i : ℕ) → i < length boxes → Waits m d (length boxes - suc i) (get_or boxes i [])) → Stacked m d boxes
stacked_from m d [] h = tt
stacked_from m d (box ∷ boxes) h =
    let e : suc (length boxes) - 1 ≡ length boxes = omega arith in
    (subst (λ n. Waits m d n box) e (h 0 (omega arith)), stacked_from m d boxes (λ i l. later i l (h (suc i) (omega arith))))
  where
    later : (i : ℕ) → i < length boxes → Waits m d (suc (length boxes) - suc (suc i)) (get_or boxes i []) → Waits m d (length boxes - suc i) (get_or boxes i [])
    later i l w = let e : suc (length boxes) - suc (suc i) ≡ length boxes - suc i = omega arith in subst (λ n. Waits m d n (get_or boxes i [])) e w

-- how many boxes the waiting ones can still cost
abbrev pub cost : ℕ → List Box → ℕ
cost d [] = 0
cost d (box ∷ boxes) = full (d - level box) + cost d boxes

-- ---- states
abbrev pub boxes_of : List Piece → List Box
boxes_of xs = map (λ x. x.box) xs

pub record Orderly (axes : ℕ) (s : Search) : Type 0 where
  pub stacked : Stacked axes s.depth (boxes_of s.waiting)
  -- what was examined and what the waiting boxes can still cost
  pub within : s.examined + cost s.depth (boxes_of s.waiting) ≤ full s.depth
  pub aside : s.aside_depth + s.aside_range ≤ s.examined
  -- a corner ends the search
  pub uncornered : (s.waiting ≡ []) ⊎ (s.corner ≡ None)

still_uncornered : (s : Search) (x : Piece) (xs ys : List Piece) → ((x ∷ xs) ≡ []) ⊎ (s.corner ≡ None) → (ys ≡ []) ⊎ (s.corner ≡ None)
still_uncornered s x xs ys (inl e) = absurd (void (cc))
still_uncornered s x xs ys (inr e) = inr e

-- the box is examined and leaves: its own cost, at least 1, is paid
left_orderly : (m : ℕ) (s : Search) (x : Piece) (xs : List Piece) (deep large : ℕ) → Orderly m (over s (x ∷ xs)) → deep + large ≤ suc (s.aside_depth + s.aside_range) → Orderly m (counted s xs deep large s.corner)
left_orderly m s x xs deep large o h = record {
  stacked = o.stacked.1;
  within = omega (arith, o.within, full_some (s.depth - level x.box));
  aside = omega (arith, o.aside);
  uncornered = still_uncornered s x xs xs o.uncornered;
}

half_waits : (c : Content) (h : Half) (j m d was older : ℕ) (x y : Piece) → j < m → y ≡ half_of c h j x → Waits m d was x.box → level x.box < d → older ≤ suc (level x.box) →
    Waits m d older y.box × (level y.box ≡ suc (level x.box))
half_waits c h j m d was older x y l e w k o =
    let b : y.box ≡ half_box h j x.box = ap (λ z. z.box) e ∙ half_has_box c h j x in
    let u : level y.box ≡ suc (level x.box) = ap level b ∙ half_level h j x.box (omega (arith, w.part_for_each)) in
    (record { part_for_each = ap length b ∙ half_length h j x.box ∙ w.part_for_each; placed = subst (AllByRecursion Placed) (sym b) (half_is_placed h j x.box w.placed); shallow = omega arith; deep = omega arith }, u)

module _ (c : Content) (μ : Meaning) (formed : Formed c) (picks : Picks μ) where
  abbrev axes : ℕ
  axes = length c.axes

  pub start_is_orderly : (d : ℕ) → Orderly axes (start c d)
  start_is_orderly d =
      let b : (whole c).box ≡ whole_box c.axes = whole_has_box c in
      let z : level (whole c).box ≡ 0 = ap level b ∙ whole_level c.axes in
      record {
        stacked = (record { part_for_each = ap length b ∙ length-map c.axes (λ _. entire); placed = subst (AllByRecursion Placed) (sym b) (whole_is_placed c.axes); shallow = omega arith; deep = omega arith }, tt);
        within = rw (z, sub-zero) (omega arith);
        aside = omega arith;
        uncornered = inr refl;
      }

  split_is_orderly : (limit : ℕ) (s : Search) (x : Piece) (xs : List Piece) → Orderly axes (over s (x ∷ xs)) → (y z : Piece) → Splits c limit μ s.depth x y z → Orderly axes (after c s x xs (split y z))
  split_is_orderly limit s x xs o y z t =
      let w = o.stacked.0 in
      let l : level x.box < s.depth = omega (arith, t.shallow, w.shallow) in
      let j = axis_is_there c μ formed picks x in
      let u = half_waits c _ (axis_of c μ x) axes s.depth (length (boxes_of xs)) (suc (length (boxes_of xs))) x y j t.one w l (omega (arith, w.deep)) in
      let v = half_waits c _ (axis_of c μ x) axes s.depth (length (boxes_of xs)) (length (boxes_of xs)) x z j t.two w l (omega (arith, w.deep)) in
      let e = full_twice s.depth (level x.box) l in
      record {
        stacked = (u.0, (v.0, o.stacked.1));
        within = rw (u.1, v.1) (omega (arith, o.within));
        aside = omega (arith, o.aside);
        uncornered = still_uncornered s x xs (y ∷ z ∷ xs) o.uncornered;
      }

  pub keeps_orderly : (limit : ℕ) (s : Search) (x : Piece) (xs : List Piece) → Orderly axes (over s (x ∷ xs)) → (o : Outcome) → examine c limit μ s.depth x ≡ o → Orderly axes (after c s x xs o)
  keeps_orderly limit s x xs h settled e = left_orderly axes s x xs s.aside_depth s.aside_range h (omega arith)
  keeps_orderly limit s x xs h (broken es) e = record { stacked = tt; within = omega (arith, h.within, full_some (s.depth - level x.box)); aside = omega (arith, h.aside); uncornered = inl refl }
  keeps_orderly limit s x xs h too_deep e = left_orderly axes s x xs (s.aside_depth + 1) s.aside_range h (omega arith)
  keeps_orderly limit s x xs h too_large e = left_orderly axes s x xs s.aside_depth (s.aside_range + 1) h (omega arith)
  keeps_orderly limit s x xs h (split y z) e = split_is_orderly limit s x xs h y z (tells c limit μ s.depth x (split y z) e)

  pub step_is_orderly : (limit : ℕ) (s : Search) → Orderly axes s → Orderly axes (step c limit μ s)
  step_is_orderly limit = keep_step c limit μ (Orderly axes) (keeps_orderly limit)

  pub steps_are_orderly : (limit n : ℕ) (s : Search) → Orderly axes s → Orderly axes (steps c limit μ n s)
  steps_are_orderly limit = keep_steps c limit μ (Orderly axes) (keeps_orderly limit)

  pub reached_is_orderly : (r : Course) → Orderly axes (reached c μ r)
  reached_is_orderly r = keep c μ (Orderly axes) r (keeps_orderly r.limit) start_is_orderly
