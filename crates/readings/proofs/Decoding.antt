-- The bytes of digits, pair by pair.
use Rattle.std.proofs.Common.{◌≡◌, ℕ, suc, ◌*◌, ◌<◌, List, [], ◌∷◌, length, get_or, take, drop, Some, None, sym, refl, ap, ◌∙◌, arith}
use Rattle.std.specs.Slice.Iter.{chunk_count}
use Rattle.std.proofs.lemmas.List.{nil_from_length}
use Rattle.readings.specs.Hex.{value_of, joined, byte_of, bytes_of}

-- there is a byte for each pair of digits, and it is the one that they write
abbrev pub PairByPair : List ℕ → List ℕ → Type 0
PairByPair digits bytes =
    (length bytes ≡ chunk_count (length digits) 2) × ((k : ℕ) → k < length bytes → byte_of (take 2 (drop (k * 2) digits)) ≡ Some (get_or bytes k 0))

pub decoded : (digits bytes : List ℕ) → PairByPair digits bytes → bytes_of digits ≡ Some bytes
decoded [] bytes (n, e) = ap Some (sym (nil_from_length bytes n))
decoded (h ∷ []) bytes (n, e) = let z : None ≡ Some (get_or bytes 0 0) = e 0 (omega (arith, n)) in absurd (grind (arith, z))
decoded (h ∷ l ∷ rest) [] (n, e) = absurd (omega (arith, n))
decoded (h ∷ l ∷ rest) (b ∷ bytes) (n, e) =
    let first : joined (value_of h) (value_of l) ≡ Some b = e 0 (omega arith) in
    let next : (k : ℕ) → suc k * 2 ≡ suc (suc (k * 2)) = λ k. omega arith in
    let others = decoded rest bytes (omega (arith, n), λ k q. ap (λ i. byte_of (take 2 (drop i (h ∷ l ∷ rest)))) (sym (next k)) ∙ e (suc k) (omega arith)) in
    rw (first, others) refl
