-- What is printed of each answer.
use Rattle.std.specs.Prelude.{ℕ, List, ◌∷◌, ◌++◌, map, codes, decimal}
use Rattle.std.specs.List.{flat_map}
use Rattle.patch.specs.Box.{Coordinate}
use Rattle.search.specs.Calls.{Reply, ran, deepened, told, pointed, refused, refusal_number}
use Rattle.search.specs.Points.{means}
use Rattle.search.specs.Text.{coordinate_text, verdict_text}
use Rattle.orders.specs.declared.answer.Answer.{Answer}
use Rattle.orders.specs.declared.answer.Answer.TheVariants.{Ran, Deepened, Told, Pointed, Refused}

abbrev pub coordinates_text : List Coordinate → List ℕ
coordinates_text xs = flat_map (λ x. 32 ∷ coordinate_text x) xs

abbrev pub no_text : ℕ → List ℕ
no_text n = codes "no " ++ decimal n

-- the line of each reply, without its end
abbrev pub reply_text : Reply → List ℕ
reply_text (ran n) = codes "ran " ++ decimal n
reply_text (deepened d) = codes "depth " ++ decimal d
reply_text (told v) = verdict_text v
reply_text (pointed xs) = codes "point" ++ coordinates_text xs
reply_text (refused why) = no_text (refusal_number why)

-- the line of each answer that the code holds: that of the reply that it stands for
abbrev pub answer_text : Answer → List ℕ
answer_text (Ran n) = reply_text (ran n)
answer_text (Deepened d) = reply_text (deepened d)
answer_text (Told v) = reply_text (told v)
answer_text (Pointed xs) = reply_text (pointed (map means xs.now))
answer_text (Refused n) = no_text n
