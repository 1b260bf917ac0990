-- The sums of what is counted in each piece of a patch.
use Rattle.std.proofs.Common.{◌≡◌, ℕ, ◌+◌, ◌-◌, ◌*◌, ◌/◌, ◌<◌, ◌≤◌, Bool, true, List, [], ◌∷◌, refl, length, get_or, take, drop, Option, Some, None, IfSome, IsSomeAnd, sym, ap, ap₂, ◌∙◌, subst, arith, sum, zero-add}
use Rattle.std.proofs.Math.Nat.{mul-div_cancel}
use Rattle.std.proofs.lemmas.List.{get_or-take, get_or-drop}
use Rattle.std.specs.Option.{option_map}
use Rattle.std.specs.Iterator.{ActsAs, Yields, CallableAtEachTurn}
use Rattle.std.specs.Iterator.Adapters.{map_steps}
use Rattle.std.specs.Iterator.Runs.{Run, EachRunFrom, EveryRun, SomeRun, IsMapRun, IsChunksExactRun}
use Rattle.std.specs.Slice.Iter.{chunks_exact_size, chunks_exact_rest, chunks_exact_steps}
use Rattle.std.specs.declared.slice.ChunksExact.{ChunksExact}
use Rattle.std.specs.declared.iter.Map.{Map}
use Rattle.std.specs.List.{IsSubsliceAt, FoldsTo}
use denote.Param.Members.{Mut, Called}
use denote.Ref.{Bor}
use Rattle.patch.proofs.Rows.{next_row, row_end}
use Rattle.patch.specs.declared.shape.Shape.{Shape}
use Rattle.algebra.specs.declared.sign.Sign.{Sign}
use Rattle.algebra.specs.declared.sign.Sign.TheVariants.{Zero}
use Rattle.chooser.specs.BySigns.{tally, is_negative, differ, differ_at, negative_at}
use Rattle.chooser.specs.Rows.{Lie, changes_at, negative_in}
use Rattle.chooser.proofs.Along.{some_block}
use Rattle.chooser.proofs.Tallies.{tally_le, tally_same, sum_of_stretches, block_changes, block_row}

-- ---- what a run of `map` gave
value_at : {A : Type 0} (R : A → ℕ → Type 0) (h : A → ℕ) (Q : A → Type 0) (v n : ℕ) → ((x : A) (y : ℕ) → R x y → y ≡ h x) → ((x : A) → Q x → h x ≡ v)
    → (a : Option ℕ) (b : Option A) → IfSome a (λ y. IsSomeAnd b (λ x. R x y)) → IfSome b Q → option_map (λ y. y) a ≡ Some n → n ≡ v
value_at R h Q v n acts is None b r q e = cc
value_at R h Q v n acts is (Some y) None r q e = absurd r
value_at R h Q v n acts is (Some y) (Some x) r q e = let p : y ≡ h x = acts x y r in let s : h x ≡ v = is x q in cc

module _ {S T A F : Type 0} {steps : S → Option ℕ → S → Type 0} {source : T → Option A → T → Type 0} (g : Mut F (A × Unit {0}) ℕ) (f : F) (p : Run steps) (q : Run source) (m : IsMapRun p q g f)
    (h : A → ℕ) (acts : ActsAs g f h) (test : ℕ → Bool) (size count : ℕ) where
  -- where the item at each place says how many places of the stretch there pass, they add up to those of all stretches
  sum_of_run : (Q : ℕ → A → Type 0) → ((k : ℕ) → IfSome (q.at k) (Q k)) → ((k : ℕ) (x : A) → Q k x → h x ≡ tally test (k * size) size) → q.len * size ≤ count → (q.whole ≡ true → q.len * size ≡ count)
      → (sum p.items ≤ count) × (p.whole ≡ true → sum p.items ≡ tally test 0 count)
  sum_of_run Q items is below all =
      let kept = m.2 (λ a r f' e. (acts a.0 r f' e).0) in
      let long : length p.items ≡ q.len = sym p.long ∙ m.1 in
      let total : sum p.items ≡ tally test 0 (q.len * size) =
      sum_of_stretches test size p.items
      (λ k l. value_at (λ x y. Called g f (x, tt) y f) h (Q k) (tally test (k * size) size) (get_or p.items k 0) (λ x y e. (acts x y f e).1) (is k) (p.at k) (q.at k) (kept.1 k) (items k) (p.reads k 0 (omega (arith, p.long))))
      ∙ ap (λ n. tally test 0 (n * size)) long
      in
      (omega (arith, total, tally_le test 0 (q.len * size)), λ w. total ∙ ap (tally test 0) (all (m.0 ∙ w)))

pieces_as : {S : Type 0} {steps : S → Option (Bor (List Sign)) → S → Type 0} (q : Run steps) (z size : ℕ) (xs signs : List Sign) → z ≡ size → xs ≡ signs → IsChunksExactRun q z xs → IsChunksExactRun q size signs
pieces_as q z size xs signs e s r = subst (λ w. IsChunksExactRun q w signs) e (subst (λ ys. IsChunksExactRun q z ys) s r)

-- a closure that calls leave as it is may be called at each block, where it may be at each of their size
module _ {F : Type 0} (R : F → Bor (List Sign) → F → Type 0) (f : F) (keeps : (x : Bor (List Sign)) (q : F) → R f x q → q ≡ f) where
  walk : (xs : List (Bor (List Sign))) (s t : ChunksExact Sign) (p q : F) → p ≡ f → Yields (chunks_exact_steps {A = Sign}) s xs t → FoldsTo R p xs q → (chunks_exact_size t ≡ chunks_exact_size s) × (q ≡ f)
  walk [] s t p q e y r = (ap (chunks_exact_size {T = Sign}) (sym y), sym r ∙ e)
  walk (x ∷ xs) s t p q e (j, step, y) (k, r, z) =
      let rest = walk xs j t k q (keeps x k (subst (λ u. R u x k) e r)) y z in
      (rest.0 ∙ step.0, rest.1)

  pub serves_blocks : (Q : F → Bor (List Sign) → Type 0) (s : ChunksExact Sign) → ((x : Bor (List Sign)) → length x.now ≡ chunks_exact_size s → Q f x) → CallableAtEachTurn (chunks_exact_steps {A = Sign}) R Q s f
  serves_blocks Q s fits =
      record {
        at = λ xs t q x u y r step.
            let w = walk xs s t f q refl y r in
            subst (λ u. Q u x) (sym w.1) (fits x (step.1.1 ∙ w.0));
      }

-- ---- along an axis
module _ (shape : Shape) (signs : List Sign) (lie : Lie shape (length signs)) where
  changes_of_block : (k : ℕ) (x : List Sign) → length x ≡ (shape.degree + 1) * shape.stride → IsSubsliceAt ((shape.degree + 1) * shape.stride) signs (k * ((shape.degree + 1) * shape.stride)) x
      → tally (differ_at x shape.stride) 0 (length x - shape.stride) ≡ tally (changes_at shape signs) (k * ((shape.degree + 1) * shape.stride)) ((shape.degree + 1) * shape.stride)
  changes_of_block k x e sub =
      let n : ℕ = shape.degree in
      let s : ℕ = shape.stride in
      let from : ℕ = k * ((n + 1) * s) in
      let short : length x - s ≡ n * s = omega (arith, e, next_row s n) in
      ap (tally (differ_at x s) 0) short
      ∙ tally_same (differ_at x s) (differ_at signs s) 0 from (n * s)
      (λ i l.
      ap₂ differ
      (ap (λ j. get_or x j Zero) (zero-add i) ∙ sub.2 i Zero (omega (arith, next_row s n)))
      (ap (λ j. get_or x (j + s) Zero) (zero-add i) ∙ sub.2 (i + s) Zero (omega (arith, next_row s n)) ∙ ap (λ j. get_or signs j Zero) (let a : from + (i + s) ≡ from + i + s = omega arith in a)))
      ∙ sym (block_changes n s k lie.some_stride (differ_at signs s))

  -- the index-th row of block k
  negatives_of_block : (index : ℕ) → index ≤ shape.degree → (k : ℕ) (x : List Sign) → length x ≡ (shape.degree + 1) * shape.stride
      → IsSubsliceAt ((shape.degree + 1) * shape.stride) signs (k * ((shape.degree + 1) * shape.stride)) x
      → tally (negative_at (take shape.stride (drop (index * shape.stride) x))) 0 shape.stride
      ≡ tally (negative_in shape index signs) (k * ((shape.degree + 1) * shape.stride)) ((shape.degree + 1) * shape.stride)
  negatives_of_block index l k x e sub =
      let n : ℕ = shape.degree in
      let s : ℕ = shape.stride in
      let from : ℕ = k * ((n + 1) * s) in
      let row : List Sign = take s (drop (index * s) x) in
      tally_same (negative_at row) (negative_at signs) 0 (from + index * s) s
      (λ i h.
      let inside : index * s + i < (n + 1) * s = omega (arith, row_end s index (n + 1) (omega arith)) in
      ap is_negative
      (ap (λ j. get_or row j Zero) (zero-add i)
      ∙ get_or-take s (drop (index * s) x) i Zero h
      ∙ get_or-drop (index * s) x i Zero
      ∙ sub.2 (index * s + i) Zero inside
      ∙ ap (λ j. get_or signs j Zero) (let a : from + (index * s + i) ≡ from + index * s + i = omega arith in a)))
      ∙ sym (block_row n s k lie.some_stride (negative_at signs) index l)

  module _ {F : Type 0} (g : Mut F (Bor (List Sign) × Unit {0}) ℕ) (f : F) (pieces : ChunksExact Sign)
      (cuts : EveryRun (chunks_exact_steps {A = Sign}) (λ p. 0 < chunks_exact_size p.from → IsChunksExactRun p (chunks_exact_size p.from) (chunks_exact_rest p.from)))
      (rest : chunks_exact_rest pieces ≡ signs) where
    pub changes_of_blocks : (counts : Map (ChunksExact Sign) F)
        → EachRunFrom (map_steps (chunks_exact_steps {A = Sign}) g) counts (λ p. SomeRun (chunks_exact_steps {A = Sign}) pieces (λ q. IsMapRun p q g f))
        → chunks_exact_size pieces ≡ (shape.degree + 1) * shape.stride → ActsAs g f (λ x. tally (differ_at x.now shape.stride) 0 (length x.now - shape.stride))
        → (p : Run (map_steps (chunks_exact_steps {A = Sign}) g)) → p.from ≡ counts → (sum p.items ≤ length signs) × (p.whole ≡ true → sum p.items ≡ tally (changes_at shape signs) 0 (length signs))
    changes_of_blocks counts maps size acts p e =
        let b : ℕ = (shape.degree + 1) * shape.stride in
        let (q, w, m) = maps p p.seen e in
        let z : chunks_exact_size q.from ≡ b = ap (chunks_exact_size {T = Sign}) w ∙ size in
        let r = pieces_as q (chunks_exact_size q.from) b (chunks_exact_rest q.from) signs z (ap (chunks_exact_rest {T = Sign}) w ∙ rest) (cuts q q.seen (omega (arith, z, some_block shape (length signs) lie))) in
        sum_of_run g f p q m (λ x. tally (differ_at x.now shape.stride) 0 (length x.now - shape.stride)) acts (changes_at shape signs) b (length signs)
        (λ k x. (length x.now ≡ b) × (k * b + b ≤ length signs) × IsSubsliceAt b signs (k * b) x.now)
        r.2
        (λ k x h. changes_of_block k x.now h.0 h.2)
        r.0
        (λ h. ap (λ l. l * b) (r.1 h ∙ ap (λ c. c / b) (sym lie.all) ∙ mul-div_cancel shape.blocks (some_block shape (length signs) lie)) ∙ lie.all)

    pub negatives_of_blocks : (index : ℕ) → index ≤ shape.degree → (counts : Map (ChunksExact Sign) F)
        → EachRunFrom (map_steps (chunks_exact_steps {A = Sign}) g) counts (λ p. SomeRun (chunks_exact_steps {A = Sign}) pieces (λ q. IsMapRun p q g f))
        → chunks_exact_size pieces ≡ (shape.degree + 1) * shape.stride → ActsAs g f (λ x. tally (negative_at (take shape.stride (drop (index * shape.stride) x.now))) 0 shape.stride)
        → (p : Run (map_steps (chunks_exact_steps {A = Sign}) g)) → p.from ≡ counts → (sum p.items ≤ length signs) × (p.whole ≡ true → sum p.items ≡ tally (negative_in shape index signs) 0 (length signs))
    negatives_of_blocks index l counts maps size acts p e =
        let b : ℕ = (shape.degree + 1) * shape.stride in
        let (q, w, m) = maps p p.seen e in
        let z : chunks_exact_size q.from ≡ b = ap (chunks_exact_size {T = Sign}) w ∙ size in
        let r = pieces_as q (chunks_exact_size q.from) b (chunks_exact_rest q.from) signs z (ap (chunks_exact_rest {T = Sign}) w ∙ rest) (cuts q q.seen (omega (arith, z, some_block shape (length signs) lie))) in
        sum_of_run g f p q m (λ x. tally (negative_at (take shape.stride (drop (index * shape.stride) x.now))) 0 shape.stride) acts (negative_in shape index signs) b (length signs)
        (λ k x. (length x.now ≡ b) × (k * b + b ≤ length signs) × IsSubsliceAt b signs (k * b) x.now)
        r.2
        (λ k x h. negatives_of_block index l k x.now h.0 h.2)
        r.0
        (λ h. ap (λ l. l * b) (r.1 h ∙ ap (λ c. c / b) (sym lie.all) ∙ mul-div_cancel shape.blocks (some_block shape (length signs) lie)) ∙ lie.all)
