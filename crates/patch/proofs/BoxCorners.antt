-- Corners, axis by axis, and their numbers.
use Rattle.std.proofs.Common.{◌≡◌, ℕ, zero, suc, ◌+◌, ◌-◌, ◌*◌, ◌/◌, ◌%◌, ◌^◌, ◌<◌, ◌≤◌, Bool, true, false, cond, ◌&&◌, List, [], ◌∷◌, map, length, get_or, drop, Some, Option, sym, refl, ap, ◌∙◌, ap₂, ⊎_elim, mod-lt, mod-eq_of_lt, mul_assoc, mul_comm, add-mul, mul-le-mul_left, one-mul, mul-one, add-one, arith, pow_pos, pow_mono, pow-add}
use Rattle.std.specs.List.{list_all, find, zip, range_with_len, AllByRecursion}
use native.Mathlib.Nat.{pow-succ', add-mul-div_left, add-mul-mod_self_left, mod-one, div-eq_of_lt, div-eq_of_lt-le}
use lib.Arith.{mod-mul}
use Rattle.std.specs.Option.{option_map}
use Rattle.std.proofs.lemmas.List.{get_or_past, drop_more, at_drop_more, at_drop_all, length-map, length-append, get_or-map, get_or_append_left, get_or-append_right}
use Rattle.std.proofs.lemmas.List.FromFn.{fill_by_all}
use Rattle.std.proofs.lemmas.Bool.{cases_lt}
use Rattle.algebra.specs.Form.{end_index, corner_index}
use Rattle.algebra.specs.Layout.{numbers, place_of}
use Rattle.algebra.specs.declared.half.Half.{Half}
use Rattle.algebra.specs.declared.half.Half.TheVariants.{Lower, Upper}
use Rattle.patch.specs.Judging.{closed, corner_inside, corners}
use Rattle.patch.specs.Corners.{ends_of, digit, rank, end_of, corner_of, Numbered}
use Rattle.patch.specs.declared.ends.Ends.{Ends as Held}

-- ---- the ends that a corner uses
length_corner : (m c : ℕ) → length (corner_of m c) ≡ m
length_corner zero c = refl
length_corner (suc m) c = ap suc (length_corner m c)

pub end_here : (m c j : ℕ) → j < m → get_or (corner_of m c) j Lower ≡ end_of (c / 2 ^ (m - 1 - j) % 2)
end_here zero c j l = absurd (omega arith)
end_here (suc m) c zero l = let e : m ≡ suc m - 1 - 0 = omega arith in ap (λ k. end_of (c / 2 ^ k % 2)) e
end_here (suc m) c (suc j) l = let e : m - 1 - j ≡ suc m - 1 - suc j = omega arith in end_here m c j (omega arith) ∙ ap (λ k. end_of (c / 2 ^ k % 2)) e

pub end_past : (m c j : ℕ) → m ≤ j → get_or (corner_of m c) j Lower ≡ Lower
end_past m c j l = get_or_past (corner_of m c) j Lower (omega (arith, length_corner m c))

inside_by_axis : (g : ℕ → Half) (es : List Held) (k n : ℕ) → list_all (λ p. closed (g p.1) (ends_of p.0)) (zip es (range_with_len k n)) ≡ corner_inside (map ends_of es) (map g (range_with_len k n))
inside_by_axis g [] k n = refl
inside_by_axis g (e ∷ es) k zero = refl
inside_by_axis g (e ∷ es) k (suc n) = ap (λ b. closed (g k) (ends_of e) && b) (inside_by_axis g es (k + 1) n)

-- each end beside its axis
pub inside_is : (es : List Held) (m c : ℕ) → list_all (λ p. closed (get_or (corner_of m c) p.1 Lower) (ends_of p.0)) (zip es (range_with_len 0 m)) ≡ corner_inside (map ends_of es) (corner_of m c)
inside_is es m c =
    inside_by_axis (λ j. get_or (corner_of m c) j Lower) es 0 m
    ∙ ap (corner_inside (map ends_of es)) (sym (fill_by_all (λ j. get_or (corner_of m c) j Lower) (corner_of m c) m Lower (length_corner m c) (λ j l. refl)))

-- ---- where a corner stands, from axis j on
abbrev pub corner_from : List ℕ → List Half → ℕ → ℕ
corner_from ns hs j = place_of (drop j ns) (corner_index (drop j ns) (drop j hs))

corner_more : (ns : List ℕ) (hs : List Half) (j : ℕ) → j < length ns → j < length hs → corner_from ns hs j ≡ end_index (get_or hs j Lower) (get_or ns j 0) * numbers (drop (j + 1) ns) + corner_from ns hs (j + 1)
corner_more ns hs j l k = ap₂ (λ ms gs. place_of ms (corner_index ms gs)) (drop_more ns j 0 l) (drop_more hs j Lower k)

-- the places of the axes before j in front
pub place_more : (ns : List ℕ) (c j p k n all : ℕ) → j < length ns → n ≡ get_or ns j 0 → p * numbers (drop j ns) + corner_from ns (corner_of (length ns) c) j ≡ all →
    k ≡ end_index (get_or (corner_of (length ns) c) j Lower) n → (p * (n + 1) + k) * numbers (drop (j + 1) ns) + corner_from ns (corner_of (length ns) c) (j + 1) ≡ all
place_more ns c j p k n all l n-is inv e =
    let hs = corner_of (length ns) c in
    let h = get_or hs j Lower in
    let rest = numbers (drop (j + 1) ns) in
    let a : numbers (drop j ns) ≡ suc n * rest = at_drop_more numbers ns j 0 l ∙ ap (λ n. suc n * rest) (sym n-is) in
    let b : (p * (n + 1) + k) * rest ≡ p * (suc n * rest) + k * rest = add-mul (p * (n + 1)) k rest ∙ ap (λ x. x + k * rest) (mul_assoc p (n + 1) rest ∙ ap (λ m. p * (m * rest)) (add-one n)) in
    let d : k * rest ≡ end_index h n * rest = ap (λ k. k * rest) e in
    let f : corner_from ns hs j ≡ end_index h n * rest + corner_from ns hs (j + 1) =
    corner_more ns hs j l (omega (arith, length_corner (length ns) c)) ∙ ap (λ n. end_index h n * rest + corner_from ns hs (j + 1)) (sym n-is) in
    omega (arith, f, ap (λ x. p * x) a, b, d, inv)

pub place_all : (ns : List ℕ) (hs : List Half) (j p all : ℕ) → length ns ≤ j → p * numbers (drop j ns) + corner_from ns hs j ≡ all → p ≡ all
place_all ns hs j p all l inv = omega (arith, at_drop_all (λ ms. p * numbers ms) ns j l, at_drop_all (λ ms. place_of ms (corner_index ms (drop j hs))) ns j l, mul-one p, inv)

pub place_small : (p n k j : ℕ) → p < 256 ^ j → n < 256 → k ≤ n → p * (n + 1) + k < 256 ^ (j + 1)
place_small p n k j a b l =
    let d : n + 1 ≤ 256 = omega arith in
    let e : 256 ^ (j + 1) ≡ 256 * 256 ^ j = rw add-one (pow-succ' 256 j) in
    omega (arith, mul-le-mul_left p d, e, mul_comm p 256)

bytes : (j : ℕ) → 256 ^ j ≡ 2 ^ (8 * j)
bytes zero = refl
bytes (suc j) =
    let e : 8 * suc j ≡ 8 + 8 * j = omega arith in
    pow-succ' 256 j ∙ ap (λ x. 256 * x) (bytes j) ∙ sym (ap (λ n. 2 ^ n) e ∙ pow-add 2 8 (8 * j))

-- the places of four axes at most
pub place_fits : (p j : ℕ) → p < 256 ^ j → j ≤ 4 → p < 2 ^ 32
place_fits p j a l = omega (arith, pow_mono {i = 8 * j} {j = 32} (omega arith), bytes j)

-- ---- the numbers of corners
pub length_corners : (m : ℕ) → length (corners m) ≡ 2 ^ m
length_corners zero = refl
length_corners (suc m) =
    let h = length_corners m in
    let a = length-map (corners m) (λ c. Lower ∷ c) in
    let b = length-map (corners m) (λ c. Upper ∷ c) in
    omega (arith, length-append (map (λ c. Lower ∷ c) (corners m)) (map (λ c. Upper ∷ c) (corners m)), pow-succ' 2 m)

-- 2^m, added, leaves the digits below it
digit_same : (c k m : ℕ) → k < m → (c + 2 ^ m) / 2 ^ k % 2 ≡ c / 2 ^ k % 2
digit_same c k m l =
    let q : ℕ = 2 ^ (m - suc k) in
    let e : m ≡ k + suc (m - suc k) = omega arith in
    let p : 2 ^ m ≡ 2 ^ k * (2 * q) = ap (λ n. 2 ^ n) e ∙ pow-add 2 k (suc (m - suc k)) ∙ ap (λ x. 2 ^ k * x) (pow-succ' 2 (m - suc k)) in
    ap (λ x. (c + x) / 2 ^ k % 2) p ∙ ap (λ x. x % 2) (add-mul-div_left c (2 * q) (pow_pos k)) ∙ add-mul-mod_self_left (c / 2 ^ k) 2 q

corner_same : (c k m : ℕ) → k ≤ m → corner_of k (c + 2 ^ m) ≡ corner_of k c
corner_same c zero m l = refl
corner_same c (suc k) m l = ap₂ (λ d cs. end_of d ∷ cs) (digit_same c k m (omega arith)) (corner_same c k m (omega arith))

pub corner_at : (m c : ℕ) → c < 2 ^ m → get_or (corners m) c [] ≡ corner_of m c
corner_at zero c l = let z : c ≡ 0 = omega arith in ap (λ c. get_or (corners 0) c []) z
corner_at (suc m) c l =
    let lows : List (List Half) = map (λ c. Lower ∷ c) (corners m) in
    let ups : List (List Half) = map (λ c. Upper ∷ c) (corners m) in
    let n = length_corners m in
    let nl : length lows ≡ 2 ^ m = length-map (corners m) (λ c. Lower ∷ c) ∙ n in
    let w = pow-succ' 2 m in
    ⊎_elim
    (λ (k : c < 2 ^ m).
    get_or_append_left lows ups [] c (omega arith) ∙ get_or-map (λ c. Lower ∷ c) (corners m) c [] [] (omega arith) ∙ ap (λ cs. Lower ∷ cs) (corner_at m c k)
    ∙ ap (λ d. end_of (d % 2) ∷ corner_of m c) (sym (div-eq_of_lt k)))
    (λ (k : 2 ^ m ≤ c).
    let r : ℕ = c - 2 ^ m in
    let e : c ≡ r + 2 ^ m = omega arith in
    let one : c / 2 ^ m ≡ 1 = div-eq_of_lt-le {k = 1} (2 ^ m) (omega arith) (omega arith) in
    get_or-append_right lows ups (2 ^ m) c [] nl k ∙ get_or-map (λ c. Upper ∷ c) (corners m) r [] [] (omega arith) ∙ ap (λ cs. Upper ∷ cs) (corner_at m r (omega arith))
    ∙ ap₂ (λ d cs. end_of (d % 2) ∷ cs) (sym one) (sym (corner_same r m m (omega arith)) ∙ ap (corner_of m) (sym e)))
    (cases_lt c (2 ^ m))

digit_of_end : (d : ℕ) → d < 2 → digit (end_of d) ≡ d
digit_of_end zero l = refl
digit_of_end (suc d) l = omega arith

rank_rest : (m c : ℕ) → rank (corner_of m c) ≡ c % 2 ^ m
rank_rest zero c = sym (mod-one c)
rank_rest (suc m) c =
    let d : digit (end_of (c / 2 ^ m % 2)) ≡ c / 2 ^ m % 2 = digit_of_end (c / 2 ^ m % 2) (mod-lt (c / 2 ^ m) (omega arith)) in
    let two : 0 < 2 = omega arith in
    ap₂ (λ d n. d * 2 ^ n + rank (corner_of m c)) d (length_corner m c) ∙ ap (λ r. c / 2 ^ m % 2 * 2 ^ m + r) (rank_rest m c)
    ∙ sym (mod-mul c two (pow_pos m)) ∙ ap (λ x. c % x) (sym (pow-succ' 2 m))

pub rank_of_corner : (m c : ℕ) → c < 2 ^ m → rank (corner_of m c) ≡ c
rank_of_corner m c l = rank_rest m c ∙ mod-eq_of_lt l

pub corners_are_numbered : (m : ℕ) → Numbered m
corners_are_numbered m = record { listed = fill_by_all (corner_of m) (corners m) (2 ^ m) [] (length_corners m) (corner_at m); ranked = rank_of_corner m }

-- ---- the first corner that a test accepts
find_ranked : (test : List Half → Bool) (m : ℕ) (xs : List ℕ) → AllByRecursion (λ c. c < 2 ^ m) xs → find (λ c. test (corner_of m c)) xs ≡ option_map rank (find test (map (corner_of m) xs))
find_ranked test m [] below = refl
find_ranked test m (c ∷ xs) below = by_test (test (corner_of m c)) _ _ (find_ranked test m xs below.1)
  where
    by_test : (b : Bool) (r : Option ℕ) (q : Option (List Half)) → r ≡ option_map rank q → cond b (Some c) r ≡ option_map rank (cond b (Some (corner_of m c)) q)
    by_test true r q e = ap Some (sym (rank_of_corner m c below.0))
    by_test false r q e = e

below_all : (k n m : ℕ) → k + n ≤ m → AllByRecursion (λ c. c < m) (range_with_len k n)
below_all k zero m l = tt
below_all k (suc n) m l = (omega arith, below_all (k + 1) n m (omega arith))

pub found_by_number : (test : List Half → Bool) (m : ℕ) → find (λ c. test (corner_of m c)) (range_with_len 0 (2 ^ m)) ≡ option_map rank (find test (corners m))
found_by_number test m = find_ranked test m (range_with_len 0 (2 ^ m)) (below_all 0 (2 ^ m) (2 ^ m) (omega arith)) ∙ ap (λ cs. option_map rank (find test cs)) (sym (corners_are_numbered m).listed)

-- the machine's count of the corners of four axes at most
pub all_corners : (m : ℕ) → m ≤ 4 → 1 * 2 ^ m % 4294967296 ≡ 2 ^ m
all_corners m l = let h : 2 ^ m < 4294967296 = omega (arith, pow_mono l) in ap (λ x. x % 4294967296) (one-mul (2 ^ m)) ∙ mod-eq_of_lt h
