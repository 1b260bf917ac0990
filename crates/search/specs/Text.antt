-- A word, a verdict and a coordinate as text.
use Rattle.std.specs.Prelude.{ℕ, List, ◌∷◌, ◌++◌, codes, decimal}
use Rattle.std.specs.Fmt.{signed_decimal}
use Rattle.ticket.specs.Text.{spaced}
use Rattle.patch.specs.Box.{Coordinate}
use Rattle.search.specs.declared.verdict.Verdict.{Verdict}
use Rattle.search.specs.declared.word.Word.{Word}
use Rattle.search.specs.declared.word.Word.TheVariants.{Running, Fails, Holds, Open}

abbrev pub word_text : Word → List ℕ
word_text Running = codes "running"
word_text Fails = codes "fails"
word_text Holds = codes "holds"
word_text Open = codes "open"

-- the word, and how many boxes were examined, wait, and were set aside for depth and for range
abbrev pub verdict_text : Verdict → List ℕ
verdict_text v =
    spaced (word_text v.word)
    (spaced (decimal v.examined)
    (spaced (decimal v.waiting)
    (spaced (decimal v.aside_depth) (decimal v.aside_range))))

-- the numerator, and which power of two it is over
abbrev pub coordinate_text : Coordinate → List ℕ
coordinate_text x = signed_decimal x.numerator ++ 47 ∷ decimal x.power
