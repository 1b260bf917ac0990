-- The pieces that a table and a workspace stand for, and what becomes of them.
use Rattle.std.proofs.Common.{◌≡◌, ℕ, suc, ◌+◌, ◌*◌, ◌<◌, ◌≤◌, List, [], ◌∷◌, map, length, take, drop, sym, refl, ap, ◌∙◌, ap₂, mul-le-mul_right, suc-mul, arith}
use Rattle.std.proofs.lemmas.List.{take-take, drop-take, take-map, drop-map}
use Rattle.algebra.specs.Pair.{Pair, pairs}
use Rattle.algebra.specs.Form.{other}
use Rattle.algebra.specs.Layout.{flat_half, numbers}
use Rattle.algebra.specs.declared.half.Half.{Half}
use Rattle.ticket.specs.Sizes.{degrees_of}
use Rattle.ticket.specs.WellFormed.{Content}
use Rattle.patch.specs.Box.{half_box}
use Rattle.patch.specs.Halving.{part, Halved}
use Rattle.search.specs.Search.{Piece, half_of}
use Rattle.case.specs.Records.{box_of}
use Rattle.case.specs.Model.{piece_in, pieces}
use Rattle.case.specs.declared.record.Record.{Record}
use Rattle.case.proofs.BoxOf.{half_has_box}

-- ---- a part of what a kind of number means
pub part_map : {K : Type 0} (f : K → Pair) (start size : ℕ) (xs : List K) → part start size (map f xs) ≡ map f (part start size xs)
part_map f start size xs = ap (take size) (drop-map f start xs) ∙ take-map f size (drop start xs)

-- the patch from `start` on was halved in the workspace, the second half in its place and the first behind it
pub record SideBySide (ns : List ℕ) (j : ℕ) (first : Half) (start size : ℕ) (old new : List Pair) : Type 0 where
  pub second_half : part start size new ≡ flat_half pairs (other first) ns j (part start size old)
  pub first_half : part (start + size) size new ≡ flat_half pairs first ns j (part start size old)
  pub before : take start new ≡ take start old

pub stand_side_by_side : (first : Half) (ns : List ℕ) (j start size : ℕ) (old new : List Pair) → size ≡ numbers ns → Halved first ns j start old new → SideBySide ns j first start size old new
stand_side_by_side first ns j start size old new e h = record {
  second_half = ap (λ n. part start n new) e ∙ h.second_half ∙ sym (ap (flat_half pairs (other first) ns j) (ap (λ n. part start n old) e));
  first_half = ap (λ n. part (start + n) n new) e ∙ h.first_half ∙ sym (ap (flat_half pairs first ns j) (ap (λ n. part start n old) e));
  before = h.before;
}

-- ---- slots that stay
slot_ends : (size i k : ℕ) → i < k → i * size + size ≤ k * size
slot_ends size i k l = let q : suc i ≤ k = omega arith in omega (arith, suc-mul i size, mul-le-mul_right size q)

part_of_front : (from size n : ℕ) (xs : List Pair) → from + size ≤ n → part from size xs ≡ drop from (take (from + size) (take n xs))
part_of_front from size n xs l = sym (ap (drop from) (take-take (from + size) n xs l) ∙ drop-take from size xs)

earlier_stay : (m size k : ℕ) (rs : List Record) (old new : List Pair) → length rs ≤ k → take (k * size) new ≡ take (k * size) old → pieces m size rs new ≡ pieces m size rs old
earlier_stay m size k [] old new l e = refl
earlier_stay m size k (r ∷ rs) old new l e =
    let i : ℕ = length rs in
    let w : i * size + size ≤ k * size = slot_ends size i k (omega arith) in
    let same : part (i * size) size new ≡ part (i * size) size old = part_of_front (i * size) size (k * size) new w ∙ ap (λ xs. drop (i * size) (take (i * size + size) xs)) e ∙ sym (part_of_front (i * size) size (k * size) old w) in
    let others = earlier_stay m size k rs old new (omega arith) e in
    ap₂ (λ p ps. record { box = box_of m r; patch = p } ∷ ps) same others

-- ---- the newest piece is halved
pub halves_stand_first : (c : Content) (m size : ℕ) (r : Record) (rs : List Record) (j : ℕ) (h : Half) (old new : List Pair) →
    SideBySide (degrees_of c.axes) j h (length rs * size) size old new →
    pieces m size (half_box h j r ∷ half_box (other h) j r ∷ rs) new ≡ half_of c h j (piece_in m size r (length rs) old) ∷ half_of c (other h) j (piece_in m size r (length rs) old) ∷ pieces m size rs old
unfolding half_of
halves_stand_first c m size r rs j h old new side =
    let i : ℕ = length rs in
    let one : part (suc i * size) size new ≡ flat_half pairs h (degrees_of c.axes) j (part (i * size) size old) = ap (λ n. part n size new) (suc-mul i size) ∙ side.first_half in
    ap₂ ◌∷◌ (half_piece h (part (suc i * size) size new) one)
    (ap₂ ◌∷◌ (half_piece (other h) (part (i * size) size new) side.second_half) (earlier_stay m size i rs old new (omega arith) side.before))
  where
    half_piece : (t : Half) (patch : List Pair) → patch ≡ flat_half pairs t (degrees_of c.axes) j (part (length rs * size) size old) →
        ◌≡◌ {A = Piece} (record { box = box_of m (half_box t j r); patch = patch }) (half_of c t j (piece_in m size r (length rs) old))
    half_piece t patch e = ap₂ (λ x y. record { box = x; patch = y }) (half_has_box m t j r) e
