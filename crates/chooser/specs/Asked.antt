-- A question as the code asks it.
use Rattle.chooser.specs.Choice.{Question}
use Rattle.chooser.specs.declared.question.Question as code

-- what the slices of a question hold
abbrev pub asked : code.Question → Question
asked q = record { degrees = q.degrees.now; halvings = q.halvings.now; depth = q.depth; signs = q.signs.now }
