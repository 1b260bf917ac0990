-- Numbers and their bytes: each is had back from the other.
use Rattle.std.proofs.Common.{◌≡◌, ℕ, zero, suc, ◌+◌, ◌*◌, ◌/◌, ◌%◌, ◌<◌, Bool, true, false, cond, not, ◌&&◌, ◌||◌, eqb, leb, List, [], ◌∷◌, ℤ, pos, negsuc, Some, None, sym, refl, ap, ◌∙◌, ⊎_elim, arith, w32, SFits, to_z, of_z}
use lib.Bits.{bit_and}
use mir.ValLaws.{to_z-Fits}
use Rattle.std.proofs.lemmas.Int.{to_z-of_z, of_z-to_z}
use Rattle.std.proofs.lemmas.Bool.{and_parts, eqb-true, leb-true, le-leb, cases_lt, false≢true}
use Rattle.ticket.specs.Numbers.{is_end, whole, four_bytes, fits_four_bytes, lower_flag, upper_flag, flags, relation_number, relation_of}
use Rattle.ticket.specs.declared.records.Relation.{Relation}
use Rattle.ticket.specs.declared.records.Relation.TheVariants.{Greater, AtLeast, Less, AtMost}

-- ---- the flags of the ends
-- a test that is passed by all numbers below n
abbrev every_below : ℕ → (ℕ → Bool) → Bool
every_below zero test = true
every_below (suc n) test = test n && every_below n test

below_passes : (n : ℕ) (test : ℕ → Bool) → every_below n test ≡ true → (k : ℕ) → k < n → test k ≡ true
below_passes zero test e k h = absurd (omega arith)
below_passes (suc n) test e k h =
    let p = and_parts (test n) (every_below n test) e in
    ⊎_elim (λ l. below_passes n test p.1 k l) (λ l. let q : n ≡ k = omega arith in ap test (sym q) ∙ p.0) (cases_lt k n)

-- the six other bits are zero, or these are the flags
abbrev flagged : ℕ → Bool
flagged e = not (eqb (bit_and e 252) 0) || eqb e (flags (lower_flag e) (upper_flag e))

all_flagged : every_below 256 flagged ≡ true
all_flagged = refl

or_right : (a b : Bool) → (not a || b) ≡ true → a ≡ true → b ≡ true
or_right true b e h = e
or_right false b e h = absurd (false≢true h)

pub flags_back : (e : ℕ) → e < 256 → eqb (bit_and e 252) 0 ≡ true → flags (lower_flag e) (upper_flag e) ≡ e
flags_back e h z = sym (eqb-true _ _ (or_right (eqb (bit_and e 252) 0) _ (below_passes 256 flagged all_flagged e h) z))

pub flags_blank : (l u : Bool) → eqb (bit_and (flags l u) 252) 0 ≡ true
flags_blank true true = refl
flags_blank true false = refl
flags_blank false true = refl
flags_blank false false = refl

pub lower_back : (l u : Bool) → lower_flag (flags l u) ≡ l
lower_back true true = refl
lower_back true false = refl
lower_back false true = refl
lower_back false false = refl

pub upper_back : (l u : Bool) → upper_flag (flags l u) ≡ u
upper_back true true = refl
upper_back true false = refl
upper_back false true = refl
upper_back false false = refl

-- ---- numbers of four bytes
fits_small : (z : ℤ) → fits_four_bytes z ≡ true → SFits w32 z
fits_small (pos n) h = record { sfits = omega (arith, leb-true n 2147483647 (and_parts true (leb n 2147483647) h).1) }
fits_small (negsuc n) h = record { sfits = omega (arith, leb-true n 2147483647 (and_parts (leb n 2147483647) true h).0) }

small_fits : (z : ℤ) → SFits w32 z → fits_four_bytes z ≡ true
small_fits (pos n) h = le-leb n 2147483647 (omega arith)
small_fits (negsuc n) h = ap (λ t. t && true) (le-leb n 2147483647 (omega arith))

pub end_fits : (z : ℤ) → is_end z ≡ true → fits_four_bytes z ≡ true
end_fits (pos n) h = le-leb n 2147483647 (omega (arith, leb-true n 30000 (and_parts true (leb n 30000) h).1))
end_fits (negsuc n) h = ap (λ t. t && true) (le-leb n 2147483647 (omega (arith, leb-true n 29999 (and_parts (leb n 29999) true h).0)))

abbrev joined : ℕ → ℕ → ℕ → ℕ → ℕ
joined a b c d = a * 16777216 + b * 65536 + c * 256 + d

pub whole_fits : (a b c d : ℕ) → a < 256 → b < 256 → c < 256 → d < 256 → fits_four_bytes (whole (a ∷ b ∷ c ∷ d ∷ [])) ≡ true
whole_fits a b c d p q r s = small_fits _ (to_z-Fits w32 (joined a b c d) (record { fits = omega arith }))

split : (n a b c d : ℕ) → n ≡ joined a b c d → b < 256 → c < 256 → d < 256 → ◌≡◌ {A = List ℕ} (n / 16777216 ∷ n / 65536 % 256 ∷ n / 256 % 256 ∷ n % 256 ∷ []) (a ∷ b ∷ c ∷ d ∷ [])
split n a b c d e q r s =
    let i : n / 16777216 ≡ a = omega arith in
    let j : n / 65536 % 256 ≡ b = omega arith in
    let k : n / 256 % 256 ≡ c = omega arith in
    let l : n % 256 ≡ d = omega arith in
    cc

pub four_whole : (a b c d : ℕ) → a < 256 → b < 256 → c < 256 → d < 256 → four_bytes (whole (a ∷ b ∷ c ∷ d ∷ [])) ≡ a ∷ b ∷ c ∷ d ∷ []
four_whole a b c d p q r s = split (of_z w32 (to_z w32 (joined a b c d))) a b c d (of_z-to_z w32 (joined a b c d) (omega arith)) q r s

together : (n : ℕ) → joined (n / 16777216) (n / 65536 % 256) (n / 256 % 256) (n % 256) ≡ n
together n = omega arith

pub whole_four : (z : ℤ) → fits_four_bytes z ≡ true → whole (four_bytes z) ≡ z
whole_four z h = ap (to_z w32) (together (of_z w32 z)) ∙ to_z-of_z w32 z (fits_small z h)

-- ---- relations
pub relation_back : (r : Relation) → relation_of (relation_number r) ≡ Some r
relation_back Greater = refl
relation_back AtLeast = refl
relation_back Less = refl
relation_back AtMost = refl

by_tests : (n : ℕ) (r : Relation) (a b c d : Bool) → eqb n 1 ≡ a → eqb n 2 ≡ b → eqb n 3 ≡ c → eqb n 4 ≡ d → cond a (Some Greater) (cond b (Some AtLeast) (cond c (Some Less) (cond d (Some AtMost) None))) ≡ Some r → relation_number r ≡ n
by_tests n r true b c d p q s t e = let x : Greater ≡ r = cc in ap relation_number (sym x) ∙ sym (eqb-true n 1 p)
by_tests n r false true c d p q s t e = let x : AtLeast ≡ r = cc in ap relation_number (sym x) ∙ sym (eqb-true n 2 q)
by_tests n r false false true d p q s t e = let x : Less ≡ r = cc in ap relation_number (sym x) ∙ sym (eqb-true n 3 s)
by_tests n r false false false true p q s t e = let x : AtMost ≡ r = cc in ap relation_number (sym x) ∙ sym (eqb-true n 4 t)
by_tests n r false false false false p q s t e = cc

pub relation_from : (n : ℕ) (r : Relation) → relation_of n ≡ Some r → relation_number r ≡ n
relation_from n r e = by_tests n r (eqb n 1) (eqb n 2) (eqb n 3) (eqb n 4) refl refl refl refl e
