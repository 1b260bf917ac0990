-- The law of the search, of its answers: what was proved of the states that courses reach.
use Rattle.std.proofs.Common.{◌≡◌, ℕ, ◌+◌, ◌≤◌, sym, refl, ap, ◌∙◌, subst, inl, inr, arith}
use Rattle.ticket.specs.WellFormed.{Content, Formed}
use Rattle.patch.specs.Box.{point_of}
use Rattle.chooser.specs.Choice.{Meaning, Picks}
use Rattle.search.specs.Search.{whole, half_of, is_clear, violation, may_halve, verdict_of}
use Rattle.search.specs.Calls.{has_room}
use Rattle.search.specs.Courses.{Course, further, reached, verdict_after, point_after, word_after, depth_after, asked, Finished, Decided, ceiling}
use Rattle.search.specs.Law.{ShowsFalse, Alike, at_depth, SameAnswers, LawStands}
use Rattle.search.specs.declared.word.Word.TheVariants.{Fails, Holds}
use Rattle.search.proofs.Deciding.{decided_lasts}
use Rattle.search.proofs.Points.{point_of_search, failing_points}
use Rattle.search.proofs.Standing.{same_standing}
use Rattle.search.proofs.Ranges.{same_in_range}
use Rattle.search.proofs.Replies.{depth_is_told, examined_is_answered}
use Rattle.search.proofs.Bounds.{few_examined, few_waiting, finishes}
use Rattle.search.proofs.Trees.{same_word}
use Rattle.search.proofs.Truth.{holds_is_true, fails_is_false}

-- the depth that a ticket names stands in no definition of the search
depth_aside : (c : Content) (μ : Meaning) (d : ℕ) (r : Course) → SameAnswers (at_depth d c) c μ r
unfolding whole half_of is_clear violation may_halve has_room
depth_aside c μ d r = record { replies = refl; verdicts = refl; points = refl }

-- ---- the answers are the search's alone
alike_of_same : (c : Content) (μ : Meaning) (r r' : Course) → reached c μ r ≡ reached c μ r' → Alike c μ r r'
alike_of_same c μ r r' e = record { verdicts = ap verdict_of e; points = ap point_of_search e }

module _ (c : Content) (μ : Meaning) where
  same_depths : (r r' : Course) → depth_after c μ r ≡ depth_after c μ r' → (reached c μ r).depth ≡ (reached c μ r').depth
  same_depths r r' d = depth_is_told c μ r ∙ d ∙ sym (depth_is_told c μ r')

  agrees : (r r' : Course) → Decided (word_after c μ r) → depth_after c μ r ≤ depth_after c μ r' → r.limit ≤ r'.limit → Finished (word_after c μ r') → word_after c μ r' ≡ word_after c μ r
  agrees r r' h d l f = same_word c μ r r' (omega (arith, d, depth_is_told c μ r, depth_is_told c μ r')) l f h

module _ (c : Content) (μ : Meaning) (formed : Formed c) (picks : Picks μ) where
  shows_false : (r : Course) → word_after c μ r ≡ Fails → ShowsFalse c (point_after c μ r)
  shows_false r e = let w = fails_is_false c μ formed picks r e in record { corner = w.0; answered = failing_points (reached c μ r) w.0 e w.1; refutes = w.2 }

  never_both : (r r' : Course) → word_after c μ r ≡ Holds → word_after c μ r' ≡ Fails → ⊥
  never_both r r' e f =
      let w = fails_is_false c μ formed picks r' f in w.2.false_there (holds_is_true c μ formed picks r e (point_of w.0) w.2.lies)

  never_otherwise : (r r' : Course) → Decided (word_after c μ r) → Decided (word_after c μ r') → word_after c μ r' ≡ word_after c μ r
  never_otherwise r r' (inl e) (inl f) = f ∙ sym e
  never_otherwise r r' (inr e) (inr f) = f ∙ sym e
  never_otherwise r r' (inl e) (inr f) = absurd (never_both r r' e f)
  never_otherwise r r' (inr e) (inl f) = absurd (never_both r' r f e)

  few_told : (r : Course) → (verdict_after c μ r).waiting ≤ depth_after c μ r + 1
  few_told r = omega (arith, few_waiting c μ formed picks r, depth_is_told c μ r)

pub law_stands : LawStands
law_stands c μ formed picks = record {
  holds_is_true = holds_is_true c μ formed picks;
  fails_is_false = shows_false c μ formed picks;
  stays = λ r h more. alike_of_same c μ (further r more) r (decided_lasts c μ r h more);
  agrees = agrees c μ;
  never_otherwise = never_otherwise c μ formed picks;
  depth_aside = depth_aside c μ;
  alike = λ r r' l d n. alike_of_same c μ r r' (same_standing c μ r r' l (same_depths c μ r r' d) n);
  alike_in_range = λ r r' d n e f. alike_of_same c μ r r' (same_in_range c μ r r' (same_depths c μ r r' d) n e f);
  few_examined = λ r. subst (λ d. (verdict_after c μ r).examined ≤ ceiling d) (depth_is_told c μ r) (few_examined c μ formed picks r);
  finishes = λ r h. finishes c μ formed picks r (subst (λ d. ceiling d ≤ asked c μ r) (sym (depth_is_told c μ r)) h);
  few_waiting = few_told c μ formed picks;
  counted = examined_is_answered c μ;
}
