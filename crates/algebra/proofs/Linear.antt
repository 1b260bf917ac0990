-- A linear map from families of vectors to vectors, such as the form of a polynomial: weighted sums go through it.
use Rattle.std.proofs.Common.{◌≡◌, ℕ, zero, suc, ℤ, pos, sym, ap, ◌∙◌, ap₂}
use mathlib.Core.Path.{fun_ext}
use Rattle.algebra.specs.Module.{Ops}
use Rattle.algebra.specs.Bernstein.{total}
use Rattle.algebra.proofs.Module.{Module}

pub record Linear {V : Type 0} (O : Ops V) {A : Type 0} (map : (A → V) → V) : Type 0 where
  pub keeps_plus : (f g : A → V) → map (λ x. O.plus (f x) (g x)) ≡ O.plus (map f) (map g)
  pub keeps_times : (a : ℤ) (f : A → V) → map (λ x. O.times a (f x)) ≡ O.times a (map f)

module _ {V : Type 0} {O : Ops V} (M : Module O) {A : Type 0} {map : (A → V) → V} (L : Linear O map) where
  open O use {nought, plus, times}
  open M use {zero_times}

  pub linear_nought : map (λ x. nought) ≡ nought
  linear_nought = ap map (fun_ext (λ x. sym (zero_times nought))) ∙ L.keeps_times (pos 0) (λ x. nought) ∙ zero_times (map (λ x. nought))

  pub linear_total : (n : ℕ) (a : ℕ → ℤ) (g : ℕ → A → V) → map (λ x. total O n (λ r. times (a r) (g r x))) ≡ total O n (λ r. times (a r) (map (g r)))
  linear_total zero a g = linear_nought
  linear_total (suc n) a g =
      L.keeps_plus (λ x. times (a 0) (g 0 x)) (λ x. total O n (λ r. times (a (suc r)) (g (suc r) x)))
      ∙ ap₂ plus (L.keeps_times (a 0) (g 0)) (linear_total n (λ r. a (suc r)) (λ r. g (suc r)))
