-- Writing at the start of a slice.
use Rattle.std.specs.Prelude.{ℕ, Bool, true, false, cond, List, ◌++◌, length, drop, Result, Ok, Err, nat_le}
use Rattle.patch.specs.declared.refusal.PatchRefusal.{PatchRefusal}
use Rattle.patch.specs.declared.refusal.PatchRefusal.TheVariants.{Room}

-- what a slice holds afterwards: the new items and the rest of the old, or the old alone if they were not written
abbrev pub written : {A : Type 0} → Bool → List A → List A → List A
written true new old = new ++ drop (length new) old
written false new old = old

-- what writing so many items answers: that they are there, or that there is no room for them
abbrev pub writing : ℕ → ℕ → Result Unit PatchRefusal
writing items room = cond (nat_le items room) (Ok tt) (Err Room)
