-- A reflective solver for the identities of the commutative ring ℤ.
--     ring ρ e₁ e₂ tt : val ρ e₁ ≡ val ρ e₂
-- where ρ lists what the variables x₀, x₁ .. stand for, and `tt` passes if the polynomial of e₁ - e₂ has only zero coefficients.
use Rattle.std.proofs.Common.{◌≡◌, ℕ, zero, suc, Bool, true, false, ◌&&◌, T, List, ℤ, pos, negsuc, ◌+ℤ◌, ◌*ℤ◌, neg_ℤ, sym, refl, ap, ◌∙◌, ap₂, arith}
use lib.IntN.{zero-*ℤ, *ℤ-zero, *ℤ_comm, +ℤ_idl, +ℤ_idr}
use Rattle.std.proofs.lemmas.Int.{ints}
use Rattle.algebra.proofs.Variables.{head, tail, at}
use Rattle.algebra.proofs.Integers.{*ℤ-assoc, *ℤ-+ℤ, +ℤ-*ℤ}

-- ---- expressions
infixl 65 ◌⊕◌ ◌⊖◌
infixl 70 ◌⊗◌
pub data Expr : Type 0 where
  var : ℕ → Expr
  con : ℤ → Expr
  ◌⊕◌ : Expr → Expr → Expr
  ◌⊗◌ : Expr → Expr → Expr
  ⊝ : Expr → Expr

abbrev pub ◌⊖◌ : Expr → Expr → Expr
a ⊖ b = a ⊕ ⊝ b

abbrev pub val : List ℤ → Expr → ℤ
val ρ (var i) = at (pos 0) i ρ
val ρ (con c) = c
val ρ (a ⊕ b) = val ρ a +ℤ val ρ b
val ρ (a ⊗ b) = val ρ a *ℤ val ρ b
val ρ (⊝ a) = neg_ℤ (val ρ a)

-- ---- polynomials: a constant, or a list of coefficients of the powers of the first variable, which are polynomials in the others
pub data Poly : Type 0 where
  constant : ℤ → Poly
  empty : Poly
  ◌▹◌ : Poly → Poly → Poly

infixr 60 ◌▹◌
abbrev pub poly_val : List ℤ → Poly → ℤ
poly_val ρ (constant c) = c
poly_val ρ empty = pos 0
poly_val ρ (c ▹ p) = poly_val (tail ρ) c +ℤ head (pos 0) ρ *ℤ poly_val ρ p

abbrev pub add_constant : ℤ → Poly → Poly
add_constant a (constant b) = constant (a +ℤ b)
add_constant a empty = constant a
add_constant a (c ▹ p) = add_constant a c ▹ p

abbrev pub add : Poly → Poly → Poly
add (constant a) q = add_constant a q
add empty q = q
add (c ▹ p) (constant b) = add_constant b c ▹ p
add (c ▹ p) empty = c ▹ p
add (c ▹ p) (d ▹ q) = add c d ▹ add p q

abbrev pub scale : ℤ → Poly → Poly
scale a (constant b) = constant (a *ℤ b)
scale a empty = empty
scale a (c ▹ p) = scale a c ▹ scale a p

abbrev pub each : (Poly → Poly) → Poly → Poly
each f (constant b) = f (constant b) ▹ empty
each f empty = empty
each f (c ▹ p) = f c ▹ each f p

abbrev pub mul : Poly → Poly → Poly
mul (constant a) q = scale a q
mul empty q = empty
mul (c ▹ p) q = add (each (mul c) q) (empty ▹ mul p q)

abbrev pub variable : ℕ → Poly
variable zero = empty ▹ constant (pos 1) ▹ empty
variable (suc i) = variable i ▹ empty

abbrev pub normal : Expr → Poly
normal (var i) = variable i
normal (con c) = constant c
normal (a ⊕ b) = add (normal a) (normal b)
normal (a ⊗ b) = mul (normal a) (normal b)
normal (⊝ a) = scale (negsuc 0) (normal a)

abbrev pub is_zero : ℤ → Bool
is_zero (pos zero) = true
is_zero (pos (suc n)) = false
is_zero (negsuc n) = false

abbrev pub vanishes : Poly → Bool
vanishes (constant a) = is_zero a
vanishes empty = true
vanishes (c ▹ p) = vanishes c && vanishes p

-- ---- both stand for the same number
regroup : (a b x p q : ℤ) → (a +ℤ b) +ℤ x *ℤ (p +ℤ q) ≡ (a +ℤ x *ℤ p) +ℤ (b +ℤ x *ℤ q)
regroup a b x p q = rw (*ℤ-+ℤ x p q) (omega (arith, ints))

add_constant_is : (ρ : List ℤ) (a : ℤ) (p : Poly) → poly_val ρ (add_constant a p) ≡ a +ℤ poly_val ρ p
add_constant_is ρ a (constant b) = refl
add_constant_is ρ a empty = sym (+ℤ_idr a)
add_constant_is ρ a (c ▹ p) = rw (add_constant_is (tail ρ) a c) (omega (arith, ints))

pub add_is : (ρ : List ℤ) (p q : Poly) → poly_val ρ (add p q) ≡ poly_val ρ p +ℤ poly_val ρ q
add_is ρ (constant a) q = add_constant_is ρ a q
add_is ρ empty q = sym (+ℤ_idl (poly_val ρ q))
add_is ρ (c ▹ p) (constant b) = rw (add_constant_is (tail ρ) b c) (omega (arith, ints))
add_is ρ (c ▹ p) empty = sym (+ℤ_idr _)
add_is ρ (c ▹ p) (d ▹ q) = rw (add_is (tail ρ) c d, add_is ρ p q) (regroup (poly_val (tail ρ) c) (poly_val (tail ρ) d) (head (pos 0) ρ) (poly_val ρ p) (poly_val ρ q))

factor_out : (a x c p : ℤ) → a *ℤ c +ℤ x *ℤ (a *ℤ p) ≡ a *ℤ (c +ℤ x *ℤ p)
factor_out a x c p = sym (*ℤ-+ℤ a c (x *ℤ p) ∙ ap (λ z. a *ℤ c +ℤ z) (sym (*ℤ-assoc a x p) ∙ ap (λ z. z *ℤ p) (*ℤ_comm a x) ∙ *ℤ-assoc x a p))

scale_is : (ρ : List ℤ) (a : ℤ) (p : Poly) → poly_val ρ (scale a p) ≡ a *ℤ poly_val ρ p
scale_is ρ a (constant b) = refl
scale_is ρ a empty = sym (*ℤ-zero a)
scale_is ρ a (c ▹ p) = rw (scale_is (tail ρ) a c, scale_is ρ a p) (factor_out a (head (pos 0) ρ) (poly_val (tail ρ) c) (poly_val ρ p))

each_is : (ρ : List ℤ) (f : Poly → Poly) (k : ℤ) → ((d : Poly) → poly_val (tail ρ) (f d) ≡ k *ℤ poly_val (tail ρ) d) → (q : Poly) → poly_val ρ (each f q) ≡ k *ℤ poly_val ρ q
each_is ρ f k h (constant b) = rw (h (constant b), *ℤ-zero (head (pos 0) ρ)) (+ℤ_idr _)
each_is ρ f k h empty = sym (*ℤ-zero k)
each_is ρ f k h (c ▹ p) = rw (h c, each_is ρ f k h p) (factor_out k (head (pos 0) ρ) (poly_val (tail ρ) c) (poly_val ρ p))

distribute : (x c p q : ℤ) → c *ℤ q +ℤ (pos 0 +ℤ x *ℤ (p *ℤ q)) ≡ (c +ℤ x *ℤ p) *ℤ q
distribute x c p q = rw (+ℤ_idl (x *ℤ (p *ℤ q)), ← (*ℤ-assoc x p q)) (sym (+ℤ-*ℤ c (x *ℤ p) q))

pub mul_is : (ρ : List ℤ) (p q : Poly) → poly_val ρ (mul p q) ≡ poly_val ρ p *ℤ poly_val ρ q
mul_is ρ (constant a) q = scale_is ρ a q
mul_is ρ empty q = sym (zero-*ℤ (poly_val ρ q))
mul_is ρ (c ▹ p) q =
    add_is ρ (each (mul c) q) (empty ▹ mul p q)
    ∙ ap₂ (λ y z. y +ℤ (pos 0 +ℤ head (pos 0) ρ *ℤ z)) (each_is ρ (mul c) (poly_val (tail ρ) c) (mul_is (tail ρ) c) q) (mul_is ρ p q)
    ∙ distribute (head (pos 0) ρ) (poly_val (tail ρ) c) (poly_val ρ p) (poly_val ρ q)

variable_is : (ρ : List ℤ) (i : ℕ) → poly_val ρ (variable i) ≡ at (pos 0) i ρ
variable_is ρ zero = rw (*ℤ-zero (head (pos 0) ρ)) (omega (arith, ints))
variable_is ρ (suc i) = rw (*ℤ-zero (head (pos 0) ρ)) (+ℤ_idr _ ∙ variable_is (tail ρ) i)

pub normal_is : (ρ : List ℤ) (e : Expr) → poly_val ρ (normal e) ≡ val ρ e
normal_is ρ (var i) = variable_is ρ i
normal_is ρ (con c) = refl
normal_is ρ (a ⊕ b) = add_is ρ (normal a) (normal b) ∙ ap₂ (λ y z. y +ℤ z) (normal_is ρ a) (normal_is ρ b)
normal_is ρ (a ⊗ b) = mul_is ρ (normal a) (normal b) ∙ ap₂ (λ y z. y *ℤ z) (normal_is ρ a) (normal_is ρ b)
normal_is ρ (⊝ a) = scale_is ρ (negsuc 0) (normal a) ∙ omega (arith, ints, normal_is ρ a)

zero_is : (a : ℤ) → T (is_zero a) → a ≡ pos 0
zero_is (pos zero) t = refl
zero_is (pos (suc n)) t = absurd t
zero_is (negsuc n) t = absurd t

pub both : (a b : Bool) → T (a && b) → T a × T b
both true b t = (tt, t)
both false b t = absurd t

pub vanishes_is : (ρ : List ℤ) (p : Poly) → T (vanishes p) → poly_val ρ p ≡ pos 0
vanishes_is ρ (constant a) t = zero_is a t
vanishes_is ρ empty t = refl
vanishes_is ρ (c ▹ p) t = rw (vanishes_is (tail ρ) c (both (vanishes c) (vanishes p) t).0, vanishes_is ρ p (both (vanishes c) (vanishes p) t).1) (+ℤ_idl _ ∙ *ℤ-zero (head (pos 0) ρ))

from_difference : (a b : ℤ) → a +ℤ neg_ℤ b ≡ pos 0 → a ≡ b
from_difference a b e = omega (arith, ints)

pub ring : (ρ : List ℤ) (e₁ e₂ : Expr) → T (vanishes (normal (e₁ ⊖ e₂))) → val ρ e₁ ≡ val ρ e₂
ring ρ a b t = from_difference (val ρ a) (val ρ b) (sym (normal_is ρ (a ⊖ b)) ∙ vanishes_is ρ (normal (a ⊖ b)) t)

abbrev pub x₀ : Expr
x₀ = var 0

abbrev pub x₁ : Expr
x₁ = var 1

abbrev pub x₂ : Expr
x₂ = var 2

abbrev pub x₃ : Expr
x₃ = var 3

abbrev pub x₄ : Expr
x₄ = var 4

abbrev pub x₅ : Expr
x₅ = var 5

abbrev pub x₆ : Expr
x₆ = var 6

abbrev pub x₇ : Expr
x₇ = var 7
