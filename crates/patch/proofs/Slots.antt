-- The two slots of a workspace in which the halves of a patch come to stand.
use Rattle.std.proofs.Common.{◌≡◌, ℕ, ◌+◌, ◌-◌, ◌≤◌, List, ◌++◌, map, length, get_or, take, drop, sym, ap, ◌∙◌, ap₂, append_assoc, arith}
use borrow.Rule.Slice.PartMut.{put_mid}
use Rattle.std.specs.List.{range_with_len}
use Rattle.std.proofs.lemmas.List.{length-append, length-take, length-drop, length-take-le, take_at, drop_at, drop-drop, take-take, map-append, take-map, drop-map}
use Rattle.std.proofs.lemmas.List.FromFn.{length-map-range_with_len}
use Rattle.std.proofs.lemmas.Slice.{take-put_mid_below, drop-put_mid}
use Rattle.algebra.specs.Pair.{Pair, pairs}
use Rattle.algebra.specs.Form.{other}
use Rattle.algebra.specs.Layout.{numbers, stride, flat_half_at, flat_half}
use Rattle.algebra.specs.declared.half.Half.{Half}
use Rattle.patch.specs.Sweeps.{pair_at, half_at, half_of}
use Rattle.patch.specs.Halving.{part, Halved, Outside, both_halves}
use Rattle.patch.specs.Shapes.{shape_of}

-- ---- the part of the workspace that the code looks at, and the slots that it writes
pub part_is : {K : Type 0} (f : K → Pair) (start size : ℕ) (xs : List K) → map f (take size (drop start xs)) ≡ part start size (map f xs)
part_is f start size xs = sym (ap (take size) (drop-map f start xs) ∙ take-map f size (drop start xs))

pub part_means : {K : Type 0} (f : K → Pair) (start size : ℕ) (xs : List K) → map f (take (start + size - start) (drop start xs)) ≡ part start size (map f xs)
part_means f start size xs =
    let e : start + size - start ≡ size = omega arith in
    ap (λ n. map f (take n (drop start xs))) e ∙ part_is f start size xs

pub put_means : {K : Type 0} (f : K → Pair) (a k : ℕ) (xs ys : List K) → map f (put_mid a k xs ys) ≡ put_mid a k (map f xs) (map f ys)
put_means f a k xs ys =
    map-append f (take a xs) (ys ++ drop k (drop a xs))
    ∙ ap₂ ◌++◌ (sym (take-map f a xs)) (map-append f ys (drop k (drop a xs)) ∙ ap (λ zs. map f ys ++ zs) (sym (ap (drop k) (drop-map f a xs) ∙ drop-map f k (drop a xs))))

pub slots_mean : {K : Type 0} (f : K → Pair) (start size k : ℕ) (xs : List K) → size ≤ k → take size (map f (take k (drop start xs))) ≡ part start size (map f xs)
slots_mean f start size k xs l = take-map f size (take k (drop start xs)) ∙ ap (map f) (take-take size k (drop start xs) l) ∙ part_is f start size xs

pub outside_is : {A : Type 0} (start k to : ℕ) (xs ys : List A) → start + k ≡ to → to ≤ length xs → length ys ≡ k → Outside start to xs (put_mid start k xs ys)
outside_is start k to xs ys e fits len = record {
  before = take-put_mid_below start k xs ys start (omega arith) (omega arith);
  after = drop-put_mid start k xs ys to (omega arith) (omega arith) len;
}

-- ---- the slots hold the halves
half_of_is : (h : Half) (ns : List ℕ) (j : ℕ) (b : List Pair) → length b ≡ numbers ns → half_of h (get_or ns j 0) (stride ns j) b ≡ flat_half pairs h ns j b
half_of_is h ns j b e = ap (λ n. map (half_at h (get_or ns j 0) (stride ns j) (pair_at b)) (range_with_len 0 n)) e

module _ (first : Half) (ns : List ℕ) (j start : ℕ) (old slots : List Pair) (fits : start + (numbers ns + numbers ns) ≤ length old) (halves : slots ≡ both_halves first (shape_of ns j) (part start (numbers ns) old)) where
  pub halved_is : Halved first ns j start old (put_mid start (numbers ns + numbers ns) old slots)
  halved_is =
      let n = numbers ns in
      let b = part start n old in
      let size : length b ≡ n = simp (length-take, length-drop) (omega arith) in
      let x = flat_half pairs (other first) ns j b in
      let y = flat_half pairs first ns j b in
      let e : slots ≡ x ++ y = halves ∙ ap₂ ◌++◌ (half_of_is (other first) ns j b size) (half_of_is first ns j b size) in
      let z = drop (n + n) (drop start old) in
      let new = put_mid start (n + n) old slots in
      let xn : length x ≡ n = length-map-range_with_len (flat_half_at pairs (other first) ns j b) 0 n in
      let yn : length y ≡ n = length-map-range_with_len (flat_half_at pairs first ns j b) 0 n in
      let tail : drop start new ≡ x ++ (y ++ z) = drop_at (take start old) (slots ++ z) start (length-take-le start old (omega arith)) ∙ ap (λ s. s ++ z) e ∙ append_assoc x y z in
      record {
        second_half = ap (take n) tail ∙ take_at x (y ++ z) n xn;
        first_half = ap (take n) (sym (drop-drop n start new) ∙ ap (drop n) tail ∙ drop_at x (y ++ z) n xn) ∙ take_at y z n yn;
        before = take-put_mid_below start (n + n) old slots start (omega arith) (omega arith);
        after = drop-put_mid start (n + n) old slots (start + (n + n)) (omega arith) (omega arith) (ap length e ∙ length-append x y ∙ ap₂ ◌+◌ xn yn);
      }
