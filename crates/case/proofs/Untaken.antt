-- The case that was not taken yet: its ticket passes sizing, and its one box was examined.
use Rattle.std.proofs.Common.{◌≡◌, ℕ, false, List, [], Ok, Err, Result, None, sym, refl, ap, ◌∙◌}
use Rattle.std.specs.Result.{IsOk}
use Rattle.ticket.specs.Faults.{each_checked}
use Rattle.ticket.specs.Law.{content}
use Rattle.ticket.specs.SizedLaw.{sized_content}
use Rattle.ticket.specs.Sizes.{sizing}
use Rattle.ticket.specs.WellFormed.{Content}
use Rattle.ticket.specs.declared.fault.Fault.{Fault}
use Rattle.ticket.specs.declared.sized_ticket.SizedTicket.{SizedTicket}
use Rattle.algebra.specs.Pair.{Pair}
use Rattle.chooser.specs.Choice.{Meaning}
use Rattle.search.specs.Search.{Piece, Search, whole, is_clear, violation, may_halve, untaken, untaken_search}
use Rattle.search.proofs.Keeping.{void}
use Rattle.case.specs.Model.{pieces}
use Rattle.case.specs.declared.record.Record.{Record}

sized_untaken : sizing false untaken ≡ Ok untaken
unfolding sizing each_checked
sized_untaken = refl

module _ (result : Result SizedTicket Fault) (c : Content) (same : c ≡ untaken) (sized : sized_content result ≡ sizing false c) where
  passed : sized_content result ≡ Ok untaken
  passed = sized ∙ ap (sizing false) same ∙ sized_untaken

  pub untaken_passes : IsOk result
  untaken_passes = is_ok_of result passed
    where
      is_ok_of : (r : Result SizedTicket Fault) → sized_content r ≡ Ok untaken → IsOk r
      is_ok_of (Ok s) e = refl
      is_ok_of (Err f) e = absurd (void (cc))

  pub passes_as_untaken : (s : SizedTicket) → result ≡ Ok s → content s.ticket ≡ untaken
  passes_as_untaken s e = let z : Ok (content s.ticket) ≡ Ok untaken = sym (ap sized_content e) ∙ passed in cc

-- whatever the kind of number, the chooser and the workspace
pub untaken_stands : (limit : ℕ) (μ : Meaning) (m size : ℕ) (recs : List Record) (work : List Pair) → recs ≡ [] →
    record { depth = 0; waiting = pieces m size recs work; examined = 1; aside_depth = 1; aside_range = 0; corner = None } ≡ untaken_search limit μ
unfolding whole is_clear violation may_halve
untaken_stands limit μ m size recs work e =
    ap {A = List Piece} {B = Search} (λ xs. record { depth = 0; waiting = xs; examined = 1; aside_depth = 1; aside_range = 0; corner = None }) (ap (λ rs. pieces m size rs work) e)
