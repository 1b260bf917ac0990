-- Record after record.
use Rattle.std.proofs.Common.{◌≡◌, ℕ, zero, suc, ◌+◌, ◌<◌, ◌≤◌, List, [], ◌∷◌, length, get_or, take, drop, Ok, Result, sym, refl, ap, ◌∙◌}
use Rattle.std.specs.Simd.{first_chunks}
use Rattle.std.proofs.lemmas.List.{drop_more, drop_all}
use Rattle.ticket.specs.Faults.{next}
use Rattle.ticket.specs.Reading.{Seen, added, record_of, records_of}
use Rattle.ticket.specs.declared.fault.Fault.{Fault}

-- records that lie apart, of which the first has the number n
abbrev pub each_read : ℕ → Seen → List (List ℕ) → Result Seen Fault
each_read n s [] = Ok s
each_read n s (b ∷ bs) = next (record_of n s b) (λ r. each_read (n + 1) (added r s) bs)

in_chunks : (m n : ℕ) (s : Seen) (bs : List ℕ) → records_of m n s bs ≡ each_read n s (first_chunks 16 m bs)
unfolding records_of
in_chunks zero n s bs = refl
in_chunks (suc m) n s bs = λ i. next (record_of n s (take 16 bs)) (λ r. in_chunks m (n + 1) (added r s) (drop 16 bs) i)

pub apart : (m n : ℕ) (s : Seen) (bs : List ℕ) {all : List (List ℕ)} → all ≡ first_chunks 16 m bs → records_of m n s bs ≡ each_read n s all
apart m n s bs e = in_chunks m n s bs ∙ ap (each_read n s) (sym e)

-- what is left to read, of records of which n were read
abbrev pub left : ℕ → Seen → List (List ℕ) → Result Seen Fault
left n s all = each_read n s (drop n all)

pub left_more : (n : ℕ) (s : Seen) (all : List (List ℕ)) (d : List ℕ) → n < length all → left n s all ≡ next (record_of n s (get_or all n d)) (λ r. left (n + 1) (added r s) all)
left_more n s all d h = ap (each_read n s) (drop_more all n d h)

pub left_none : (n : ℕ) (s : Seen) (all : List (List ℕ)) → length all ≤ n → Ok s ≡ left n s all
left_none n s all h = ap (each_read n s) (sym (drop_all n all h))
