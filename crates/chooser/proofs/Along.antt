-- A patch along one of its axes: its blocks are all of it, and what is counted row by row is what the definitions count.
use Rattle.std.proofs.Common.{◌≡◌, ℕ, ◌+◌, ◌*◌, ◌<◌, ◌≤◌, cond, List, length, get_or, take, sym, ap, ◌∙◌, subst, arith, le-mul_of_pos_right, mul_comm, le-ltb, lt-ltb}
use Rattle.algebra.specs.Layout.{numbers}
use Rattle.algebra.proofs.Places.{numbers_positive}
use Rattle.algebra.specs.declared.half.Half.TheVariants.{Lower, Upper}
use Rattle.algebra.specs.declared.sign.Sign.{Sign}
use Rattle.patch.proofs.Counting.{size_is, stride_positive}
use Rattle.patch.specs.Shapes.{shape_of}
use Rattle.patch.specs.declared.shape.Shape.{Shape}
use Rattle.chooser.specs.BySigns.{tally, changes, negatives, half_first}
use Rattle.chooser.specs.Rows.{Lie, changes_at, negative_in}

pub lie_along : (ns : List ℕ) (j : ℕ) (shape : Shape) (count : ℕ) → shape ≡ shape_of ns j → j < length ns → numbers ns ≡ count → Lie shape count
lie_along ns j shape count e l h = subst (λ s. Lie s count) (sym e) (record { all = size_is ns j l ∙ h; some_blocks = numbers_positive (take j ns); some_stride = stride_positive ns j l })

module _ (shape : Shape) (count : ℕ) (lie : Lie shape count) where
  pub some_block : 0 < (shape.degree + 1) * shape.stride
  some_block = let p = lie.some_stride in omega (arith, le-mul_of_pos_right (shape.degree + 1) p)

  pub block_below : (shape.degree + 1) * shape.stride ≤ count
  block_below =
      let b : ℕ = (shape.degree + 1) * shape.stride in
      let p = lie.some_blocks in
      omega (arith, lie.all, le-mul_of_pos_right b p, mul_comm b shape.blocks)

-- ---- what is counted row by row is what the definitions count
module _ (ns : List ℕ) (j : ℕ) (shape : Shape) (e : shape ≡ shape_of ns j) where
  module _ (signs : List Sign) where
    pub changes_are : tally (changes_at shape signs) 0 (length signs) ≡ changes ns signs j
    changes_are = ap (λ s. tally (changes_at s signs) 0 (length signs)) e

    lowest_are : tally (negative_in shape 0 signs) 0 (length signs) ≡ negatives ns signs j 0
    lowest_are = ap (λ s. tally (negative_in s 0 signs) 0 (length signs)) e

    highest_are : tally (negative_in shape shape.degree signs) 0 (length signs) ≡ negatives ns signs j (get_or ns j 0)
    highest_are = ap (λ s. tally (negative_in s s.degree signs) 0 (length signs)) e

    module _ (x y : ℕ) (p : x ≡ tally (negative_in shape 0 signs) 0 (length signs)) (q : y ≡ tally (negative_in shape shape.degree signs) 0 (length signs)) where
      pub upper_first : x < y → Upper ≡ half_first ns signs j
      upper_first l = ap (λ t. cond t Upper Lower) (sym (lt-ltb (negatives ns signs j 0) (negatives ns signs j (get_or ns j 0)) (omega (arith, p ∙ lowest_are, q ∙ highest_are))))

      pub lower_first : y ≤ x → Lower ≡ half_first ns signs j
      lower_first l = ap (λ t. cond t Upper Lower) (sym (le-ltb (negatives ns signs j 0) (negatives ns signs j (get_or ns j 0)) (omega (arith, p ∙ lowest_are, q ∙ highest_are))))
