use Rattle.chooser.proofs.ByIndex.{changes_are_by_index, negatives_are_by_index}
use Rattle.chooser.proofs.Even.{least_halved_is_first, evening_keeps_close, close_answer_stands, most_changed_is_first}
use Rattle.chooser.proofs.laws.chooser_laws.Goals as goal

pub returns : goal.returns
returns c =
    record {
      least = least_halved_is_first;
      close = evening_keeps_close;
      stands = close_answer_stands;
      most = most_changed_is_first;
      changes = changes_are_by_index;
      negatives = negatives_are_by_index;
    }
