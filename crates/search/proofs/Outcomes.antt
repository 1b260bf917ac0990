-- What the outcome of examining a box tells of it, and what brings it about.
use Rattle.std.proofs.Common.{◌≡◌, ℕ, Bool, true, false, eqb, List, Some, None, Option, refl, subst, arith}
use Rattle.std.proofs.lemmas.Bool.Decides.{eqb_tells}
use Rattle.algebra.specs.declared.half.Half.{Half}
use Rattle.ticket.specs.WellFormed.{Content}
use Rattle.chooser.specs.Choice.{Meaning}
use Rattle.search.specs.Search.{Piece, level, is_clear, violation, may_halve, first_half, second_half, Outcome, settled, broken, too_deep, too_large, split, judged, examine}

module _ (c : Content) (limit : ℕ) (μ : Meaning) (d : ℕ) (x : Piece) where
  pub record Splits (first second : Piece) : Type 0 where
    pub unclear : is_clear c x ≡ false
    pub unbroken : violation c x ≡ None
    pub shallow : level x.box ≡ d → ⊥
    pub grows : may_halve c μ limit x ≡ true
    pub one : first ≡ first_half c μ x
    pub two : second ≡ second_half c μ x

  abbrev pub Tells : Outcome → Type 0
  Tells settled = is_clear c x ≡ true
  Tells (broken es) = (is_clear c x ≡ false) × (violation c x ≡ Some es)
  Tells too_deep = level x.box ≡ d
  Tells too_large = may_halve c μ limit x ≡ false
  Tells (split first second) = Splits first second

  deep : eqb (level x.box) d ≡ true → level x.box ≡ d
  deep e = grind (arith, eqb_tells)

  not_deep : eqb (level x.box) d ≡ false → level x.box ≡ d → ⊥
  not_deep e h = grind (arith, eqb_tells)

  seen_not_deep : (level x.box ≡ d → ⊥) → eqb (level x.box) d ≡ false
  seen_not_deep h = grind (arith, eqb_tells)

  judged_tells : (clear : Bool) (corner : Option (List Half)) (deepest grows : Bool) → is_clear c x ≡ clear → violation c x ≡ corner → eqb (level x.box) d ≡ deepest → may_halve c μ limit x ≡ grows →
      Tells (judged clear corner deepest grows (first_half c μ x) (second_half c μ x))
  judged_tells true corner deepest grows p q r s = p
  judged_tells false (Some es) deepest grows p q r s = (p, q)
  judged_tells false None true grows p q r s = deep r
  judged_tells false None false false p q r s = s
  judged_tells false None false true p q r s = record { unclear = p; unbroken = q; shallow = not_deep r; grows = s; one = refl; two = refl }

  pub tells : (o : Outcome) → examine c limit μ d x ≡ o → Tells o
  tells o e = subst Tells e (judged_tells (is_clear c x) (violation c x) (eqb (level x.box) d) (may_halve c μ limit x) refl refl refl refl)

  pub clear_settles : is_clear c x ≡ true → examine c limit μ d x ≡ settled
  clear_settles e = rw e

  pub violation_breaks : (es : List Half) → is_clear c x ≡ false → violation c x ≡ Some es → examine c limit μ d x ≡ broken es
  violation_breaks es e f = rw (e, f)

  pub splits_split : {first second : Piece} → Splits first second → examine c limit μ d x ≡ split first second
  splits_split {first} {second} s = rw (s.unclear, s.unbroken, seen_not_deep s.shallow, s.grows) (cc (s.one, s.two))
