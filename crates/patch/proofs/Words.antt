-- Sums and products of words, as the machine computes them, where what they should be is at most 2^62 - 1 in size.
use Rattle.std.proofs.Common.{◌≡◌, ◌<◌, ◌≤◌, ℤ, pos, negsuc, ◌+ℤ◌, ◌*ℤ◌, nat_abs, sym, ◌∙◌, subst, arith, w32, w64, SFits, to_z, of_z}
use lib.Signed.{mag}
use Rattle.std.proofs.lemmas.Int.{to_z-of_z}
use Rattle.number.specs.Limits.{word}

pub fits_word : (z : ℤ) → nat_abs z ≤ word → SFits w64 z
fits_word (pos n) h = record { sfits = omega arith }
fits_word (negsuc n) h = record { sfits = omega arith }

-- what a call answered
pub answer_is : {x z : ℤ} → mag x < 9223372036854775808 → x ≡ z → to_z w64 (of_z w64 x) ≡ z
answer_is {x} fits e = to_z-of_z w64 x (record { sfits = fits }) ∙ e

-- and where it answered a number of 32 bits, made wider
pub widened_is : {x : ℤ} (z : ℤ) → mag x < 9223372036854775808 → SFits w32 z → x ≡ to_z w32 (of_z w32 z) → to_z w64 (of_z w64 x) ≡ z
widened_is z fits narrow e = answer_is fits (e ∙ to_z-of_z w32 z narrow)

module _ {x y p q : ℤ} (e : x ≡ p) (f : y ≡ q) where
  pub product_fits : nat_abs (p *ℤ q) ≤ word → SFits w64 (x *ℤ y)
  product_fits h = subst (SFits w64) (λ i. sym e i *ℤ sym f i) (fits_word (p *ℤ q) h)

  pub product_is : nat_abs (p *ℤ q) ≤ word → to_z w64 (of_z w64 (x *ℤ y)) ≡ p *ℤ q
  product_is h = to_z-of_z w64 (x *ℤ y) (product_fits h) ∙ (λ i. e i *ℤ f i)

  pub sum_fits : nat_abs (p +ℤ q) ≤ word → SFits w64 (x +ℤ y)
  sum_fits h = subst (SFits w64) (λ i. sym e i +ℤ sym f i) (fits_word (p +ℤ q) h)

  pub sum_is : nat_abs (p +ℤ q) ≤ word → to_z w64 (of_z w64 (x +ℤ y)) ≡ p +ℤ q
  sum_is h = to_z-of_z w64 (x +ℤ y) (sum_fits h) ∙ (λ i. e i +ℤ f i)
