-- The ends of a box, axis by axis.
use Rattle.std.proofs.Common.{◌≡◌, ◌≤◌, ◌⊎◌, inl, inr, List, [], ◌∷◌, ◌++◌, map, length, take, sym, refl, ap, ◌∙◌, ap₂, arith}
use Rattle.std.proofs.lemmas.List.{append_assoc, append-nil, map_push, nil_from_length}
use Rattle.ticket.specs.declared.records.Axis.{Axis}
use Rattle.patch.specs.Box.{Box, Part, ends_of, box_ends}
use Rattle.patch.specs.Corners.{ends_of as closed_ends}
use Rattle.patch.specs.declared.ends.Ends.{Ends as Held}

-- one axis more: its ends stand behind those before it, and those of the later axes are yet to come
pub one_more_end : (axes later : List Axis) (box after : Box) (a : Axis) (x : Part) (es : List Held) (e : Held) → axes ≡ a ∷ later → box ≡ x ∷ after → closed_ends e ≡ ends_of a x →
    map closed_ends (es ++ e ∷ []) ++ box_ends later after ≡ map closed_ends es ++ box_ends axes box
one_more_end axes later box after a x es e first part here =
    ap (λ xs. xs ++ box_ends later after) (map_push closed_ends es e) ∙ append_assoc (map closed_ends es) (closed_ends e ∷ []) (box_ends later after)
    ∙ ap (λ y. map closed_ends es ++ y ∷ box_ends later after) here
    ∙ ap (λ xs. map closed_ends es ++ xs) (sym (ap₂ box_ends first part))

-- at the end of the axes or of the parts no axis is left, since there are as many parts at least
pub none_later : {A B : Type 0} (later : List A) (after : List B) → (later ≡ []) ⊎ (after ≡ []) → length later ≤ length after → later ≡ []
none_later later after (inl e) few = e
none_later later after (inr e) few = nil_from_length later (omega (arith, ap length e))

pub all_ends : (later : List Axis) (after : Box) (es : List Held) → later ≡ [] → map closed_ends es ≡ map closed_ends es ++ box_ends later after
all_ends later after es none = sym (ap (λ ls. map closed_ends es ++ box_ends ls after) none ∙ append-nil _)

-- a part beyond the axes has no ends
pub no_more_ends : (axes : List Axis) (box : Box) → box_ends axes (take (length axes) box) ≡ box_ends axes box
no_more_ends [] box = refl
no_more_ends (a ∷ axes) [] = refl
no_more_ends (a ∷ axes) (x ∷ box) = ap (λ es. ends_of a x ∷ es) (no_more_ends axes box)
