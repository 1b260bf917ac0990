-- What is lent to the questions about the newest box, in the words of the search.
use Rattle.std.proofs.Common.{◌≡◌, ℕ, Bool, true, List, map, length, take, Option, sym, ap, ◌∙◌, ap₂, arith}
use Rattle.std.proofs.Math.Seq.{take-append_seam}
use Rattle.algebra.specs.Pair.{Pair}
use Rattle.number.specs.declared.number.Number.{Ghosts}
use Rattle.ticket.specs.Sizes.{degrees_of}
use Rattle.ticket.specs.declared.records.Axis.{Axis}
use Rattle.ticket.specs.declared.records.Relation.{Relation}
use Rattle.patch.specs.Box.{box_ends}
use Rattle.patch.specs.Corners.{ends_of, lowest_broken}
use Rattle.patch.specs.FirstPatch.{turned}
use Rattle.patch.specs.Judging.{all_satisfy}
use Rattle.patch.specs.Writing.{written}
use Rattle.patch.specs.declared.ends.Ends.{Ends}
use Rattle.search.specs.Search.{halvings_of}
use Rattle.case.specs.Records.{box_of}
use Rattle.case.specs.Model.{ticket_of}
use Rattle.case.specs.declared.record.Record.{Record}
use Rattle.case.specs.declared.case.Case.{Case}
use Rattle.case.proofs.EndsOfBox.{no_more_ends}
use Rattle.case.proofs.Standing.{axes}

-- ---- signs
pub written_front : {X : Type 0} (r : Bool) (new old all : List X) (n : ℕ) → r ≡ true → all ≡ written r new old → n ≡ length new → take n all ≡ new
written_front r new old all n t e l = ap₂ take l (e ∙ ap (λ b. written b new old) t) ∙ take-append_seam new _

-- ---- the relation
pub turned_satisfies : (relation turned : Relation) (patch : List Pair) (result answer : Bool) → relation ≡ turned → result ≡ all_satisfy relation patch → result ≡ answer → all_satisfy turned patch ≡ answer
turned_satisfies relation turned patch result answer q e f = sym (ap (λ r. all_satisfy r patch) q) ∙ sym e ∙ f

-- ---- degrees, ends and halvings
module _ {K : Type 0} {N : Ghosts K} (k : Case K N) (lent : List Axis) (all : lent ≡ (ticket_of k).axes) where
  as_many_lent : length lent ≡ axes k
  as_many_lent = omega (arith, ap length all)

  pub halvings_lent : (r : Record) (halvings : List ℕ) → halvings ≡ halvings_of (box_of (length lent) r) → halvings ≡ halvings_of (box_of (axes k) r)
  halvings_lent r halvings e = e ∙ ap (λ n. halvings_of (box_of n r)) as_many_lent

  pub lowest_lent : (degrees : List ℕ) (r : Record) (relation : Relation) (ends : List Ends) (patch : List Pair) (number : Option ℕ) → degrees ≡ k.degrees.items → relation ≡ (turned (ticket_of k)).relation →
      map ends_of ends ≡ box_ends lent r →
      number ≡ lowest_broken relation degrees (map ends_of ends) patch →
      number ≡ lowest_broken (turned (ticket_of k)).relation (degrees_of (ticket_of k).axes) (box_ends (ticket_of k).axes (box_of (axes k) r)) patch
  lowest_lent degrees r relation ends patch number d q e f =
      f ∙ ap (λ x. lowest_broken x degrees (map ends_of ends) patch) q
      ∙ ap₂ (λ ns es. lowest_broken (turned (ticket_of k)).relation ns es patch) (d ∙ k.shaped) (e ∙ ap (λ xs. box_ends xs r) all ∙ sym (no_more_ends (ticket_of k).axes r))
