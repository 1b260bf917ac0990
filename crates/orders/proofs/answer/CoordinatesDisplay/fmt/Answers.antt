use Rattle.std.proofs.Common.{◌∷◌, sym, ap, ◌∙◌}
use Rattle.std.specs.List.{flat_map}
use Rattle.std.proofs.Output.{has_written_of_eq}
use Rattle.std.proofs.lemmas.List.{take_all}
use Rattle.std.proofs.lemmas.List.Folds.{flat_map-map}
use Rattle.search.specs.Points.{means}
use Rattle.search.specs.Text.{coordinate_text}
use Rattle.orders.proofs.answer.CoordinatesDisplay.fmt.Goals as goal

pub returns-clause-writes : goal.returns-clause-writes
returns-clause-writes g c = λ plain ok.
    has_written_of_eq _ _ _ _ _
    (ap (flat_map (λ x. 32 ∷ coordinate_text (means x))) (take_all c.loop-x.x-index c.args.self.now.0.now c.loop-x-test.false)
    ∙ sym (flat_map-map (λ x. 32 ∷ coordinate_text x) means c.args.self.now.0.now))
    (c.loop-x.invariant plain)
