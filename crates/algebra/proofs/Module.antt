-- A module over ℤ, and a reflective solver for the linear identities in it.
--     linear M ρ σ a b tt : lin-val ρ σ a ≡ lin-val ρ σ b
-- where ρ lists what the variables x₀, x₁ .. stand for and σ the vectors v₀, v₁ .., as `ring` does for ℤ.
use Rattle.std.proofs.Common.{◌≡◌, ℕ, zero, suc, Bool, true, ◌&&◌, T, List, [], ◌∷◌, ℤ, pos, negsuc, ◌+ℤ◌, ◌*ℤ◌, sym, refl, ap, ◌∙◌, ap₂}
use lib.IntN.{*ℤ-zero}
use Rattle.algebra.specs.Module.{Ops}
use Rattle.algebra.proofs.Variables.{head, tail, at}
use Rattle.algebra.proofs.Ring.{Expr, con, val, Poly, constant, empty, poly_val, add, mul, normal, vanishes, add_is, mul_is, normal_is, vanishes_is, both}

pub record Module {V : Type 0} (O : Ops V) : Type 0 where
  pub plus_assoc : (x y z : V) → O.plus (O.plus x y) z ≡ O.plus x (O.plus y z)
  pub plus_comm : (x y : V) → O.plus x y ≡ O.plus y x
  pub plus_nought : (x : V) → O.plus x O.nought ≡ x
  pub times_plus : (a : ℤ) (x y : V) → O.times a (O.plus x y) ≡ O.plus (O.times a x) (O.times a y)
  pub plus_times : (a b : ℤ) (x : V) → O.times (a +ℤ b) x ≡ O.plus (O.times a x) (O.times b x)
  pub times_times : (a b : ℤ) (x : V) → O.times (a *ℤ b) x ≡ O.times a (O.times b x)
  pub one_times : (x : V) → O.times (pos 1) x ≡ x
  pub zero_times : (x : V) → O.times (pos 0) x ≡ O.nought

infixl 65 ◌⊞◌ ◌⊟◌
infixr 70 ◌⊡◌
pub data Lin : Type 0 where
  vector : ℕ → Lin
  none_of : Lin
  ◌⊞◌ : Lin → Lin → Lin
  ◌⊡◌ : Expr → Lin → Lin

abbrev pub ◌⊟◌ : Lin → Lin → Lin
a ⊟ b = a ⊞ (con (negsuc 0) ⊡ b)

abbrev pub add_all : List Poly → List Poly → List Poly
add_all [] qs = qs
add_all (p ∷ ps) [] = p ∷ ps
add_all (p ∷ ps) (q ∷ qs) = add p q ∷ add_all ps qs

abbrev pub scale_all : Poly → List Poly → List Poly
scale_all a [] = []
scale_all a (p ∷ ps) = mul a p ∷ scale_all a ps

abbrev pub unit : ℕ → List Poly
unit zero = constant (pos 1) ∷ []
unit (suc i) = empty ∷ unit i

abbrev pub linear_normal : Lin → List Poly
linear_normal (vector i) = unit i
linear_normal none_of = []
linear_normal (a ⊞ b) = add_all (linear_normal a) (linear_normal b)
linear_normal (e ⊡ a) = scale_all (normal e) (linear_normal a)

abbrev pub all_vanish : List Poly → Bool
all_vanish [] = true
all_vanish (p ∷ ps) = vanishes p && all_vanish ps

module _ {V : Type 0} {O : Ops V} (M : Module O) where
  open O use {nought, plus, times}
  open M use {plus_assoc, plus_comm, plus_nought, times_plus, plus_times, times_times, one_times, zero_times}

  abbrev pub lin_val : List ℤ → List V → Lin → V
  lin_val ρ σ (vector i) = at nought i σ
  lin_val ρ σ none_of = nought
  lin_val ρ σ (a ⊞ b) = plus (lin_val ρ σ a) (lin_val ρ σ b)
  lin_val ρ σ (e ⊡ a) = times (val ρ e) (lin_val ρ σ a)

  abbrev combination : List ℤ → List V → List Poly → V
  combination ρ σ [] = nought
  combination ρ σ (p ∷ ps) = plus (times (poly_val ρ p) (head nought σ)) (combination ρ (tail σ) ps)

  pub nought_plus : (x : V) → plus nought x ≡ x
  nought_plus x = plus_comm nought x ∙ plus_nought x

  pub times_nought : (a : ℤ) → times a nought ≡ nought
  times_nought a = ap (times a) (sym (zero_times nought)) ∙ sym (times_times a (pos 0) nought) ∙ ap (λ z. times z nought) (*ℤ-zero a) ∙ zero_times nought

  swap : (a b c d : V) → plus (plus a b) (plus c d) ≡ plus (plus a c) (plus b d)
  swap a b c d = plus_assoc a b (plus c d) ∙ ap (plus a) (sym (plus_assoc b c d) ∙ ap (λ z. plus z d) (plus_comm b c) ∙ plus_assoc c b d) ∙ sym (plus_assoc a c (plus b d))

  add_all_is : (ρ : List ℤ) (σ : List V) (ps qs : List Poly) → combination ρ σ (add_all ps qs) ≡ plus (combination ρ σ ps) (combination ρ σ qs)
  add_all_is ρ σ [] qs = sym (nought_plus (combination ρ σ qs))
  add_all_is ρ σ (p ∷ ps) [] = sym (plus_nought _)
  add_all_is ρ σ (p ∷ ps) (q ∷ qs) =
      ap₂ plus (ap (λ z. times z (head nought σ)) (add_is ρ p q) ∙ plus_times (poly_val ρ p) (poly_val ρ q) (head nought σ)) (add_all_is ρ (tail σ) ps qs)
      ∙ swap (times (poly_val ρ p) (head nought σ)) (times (poly_val ρ q) (head nought σ)) (combination ρ (tail σ) ps) (combination ρ (tail σ) qs)

  scale_all_is : (ρ : List ℤ) (σ : List V) (a : Poly) (ps : List Poly) → combination ρ σ (scale_all a ps) ≡ times (poly_val ρ a) (combination ρ σ ps)
  scale_all_is ρ σ a [] = sym (times_nought (poly_val ρ a))
  scale_all_is ρ σ a (p ∷ ps) =
      ap₂ plus (ap (λ z. times z (head nought σ)) (mul_is ρ a p) ∙ times_times (poly_val ρ a) (poly_val ρ p) (head nought σ)) (scale_all_is ρ (tail σ) a ps)
      ∙ sym (times_plus (poly_val ρ a) (times (poly_val ρ p) (head nought σ)) (combination ρ (tail σ) ps))

  unit_is : (ρ : List ℤ) (σ : List V) (i : ℕ) → combination ρ σ (unit i) ≡ at nought i σ
  unit_is ρ σ zero = plus_nought _ ∙ one_times (head nought σ)
  unit_is ρ σ (suc i) = ap (λ z. plus z (combination ρ (tail σ) (unit i))) (zero_times (head nought σ)) ∙ nought_plus _ ∙ unit_is ρ (tail σ) i

  linear_normal_is : (ρ : List ℤ) (σ : List V) (a : Lin) → combination ρ σ (linear_normal a) ≡ lin_val ρ σ a
  linear_normal_is ρ σ (vector i) = unit_is ρ σ i
  linear_normal_is ρ σ none_of = refl
  linear_normal_is ρ σ (a ⊞ b) = add_all_is ρ σ (linear_normal a) (linear_normal b) ∙ ap₂ plus (linear_normal_is ρ σ a) (linear_normal_is ρ σ b)
  linear_normal_is ρ σ (e ⊡ a) = scale_all_is ρ σ (normal e) (linear_normal a) ∙ ap₂ times (normal_is ρ e) (linear_normal_is ρ σ a)

  all_vanish_is : (ρ : List ℤ) (σ : List V) (ps : List Poly) → T (all_vanish ps) → combination ρ σ ps ≡ nought
  all_vanish_is ρ σ [] t = refl
  all_vanish_is ρ σ (p ∷ ps) t =
      ap₂ plus (ap (λ z. times z (head nought σ)) (vanishes_is ρ p (both (vanishes p) (all_vanish ps) t).0) ∙ zero_times (head nought σ)) (all_vanish_is ρ (tail σ) ps (both (vanishes p) (all_vanish ps) t).1)
      ∙ plus_nought nought

  from_difference : (x y : V) → plus x (times (negsuc 0) y) ≡ nought → x ≡ y
  from_difference x y e =
      sym (plus_nought x) ∙ ap (plus x) (sym (zero_times y) ∙ plus_times (negsuc 0) (pos 1) y) ∙ sym (plus_assoc x (times (negsuc 0) y) (times (pos 1) y))
      ∙ ap₂ plus e (one_times y) ∙ nought_plus y

  pub linear : (ρ : List ℤ) (σ : List V) (a b : Lin) → T (all_vanish (linear_normal (a ⊟ b))) → lin_val ρ σ a ≡ lin_val ρ σ b
  linear ρ σ a b t = from_difference (lin_val ρ σ a) (lin_val ρ σ b) (sym (linear_normal_is ρ σ (a ⊟ b)) ∙ all_vanish_is ρ σ (linear_normal (a ⊟ b)) t)

abbrev pub v₀ : Lin
v₀ = vector 0

abbrev pub v₁ : Lin
v₁ = vector 1

abbrev pub v₂ : Lin
v₂ = vector 2

abbrev pub v₃ : Lin
v₃ = vector 3
