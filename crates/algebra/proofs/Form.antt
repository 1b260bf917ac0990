-- The Bernstein form along several axes, axis by axis from the laws of one.
use Rattle.std.proofs.Common.{◌≡◌, ℕ, zero, suc, ◌-◌, ◌≤◌, List, [], ◌∷◌, get_or, ℤ, pos, ◌<ℤ◌, sym, refl, ap, ◌∙◌, arith}
use mathlib.Core.Path.{fun_ext}
use Rattle.std.specs.List.{AllByRecursion}
use Rattle.std.proofs.lemmas.Int.{ints}
use Rattle.algebra.specs.Module.{Ops, pow}
use Rattle.algebra.specs.Pair.{Pair, pairs, sign_of, IsPositive, NotNegative}
use Rattle.algebra.specs.Bernstein.{choose, eval}
use Rattle.algebra.specs.Form.{Axis, degrees, Between, Index, toward, change, form, half, half_along, distance, other, AtCorner, end_index, corner_index, corner_weight}
use Rattle.algebra.specs.declared.half.Half.{Half}
use Rattle.algebra.specs.declared.half.Half.TheVariants.{Lower, Upper}
use Rattle.algebra.proofs.Integers.{pos-*}
use Rattle.algebra.proofs.Powers.{pow_positive}
use Rattle.algebra.proofs.Module.{Module}
use Rattle.algebra.proofs.Pair.{pairs_laws}
use Rattle.algebra.proofs.Signs.{multiple_keeps_sign}
use Rattle.algebra.proofs.Linear.{Linear, linear_total}
use Rattle.algebra.proofs.Bernstein.{eval_cong, eval_plus, eval_times, eval_at_lower_end, eval_at_upper_end, low_is_lower_half, high_is_upper_half, eval_keeps_positive, eval_keeps_not_negative}

module _ {V : Type 0} {O : Ops V} (M : Module O) where
  open O use {plus, times}
  open M use {times_times, one_times}

  pub form_cong : (xs : List Axis) (f g : List ℕ → V) → ((ks : List ℕ) → Index (degrees xs) ks → f ks ≡ g ks) → form O xs f ≡ form O xs g
  form_cong [] f g h = h [] tt
  form_cong (x ∷ xs) f g h =
      eval_cong M x.degree x.s x.t (λ k. form O xs (λ ks. f (k ∷ ks))) (λ k. form O xs (λ ks. g (k ∷ ks)))
      (λ k p. form_cong xs (λ ks. f (k ∷ ks)) (λ ks. g (k ∷ ks)) (λ ks q. h (k ∷ ks) (p, q)))

  -- ---- linear
  pub form_plus : (xs : List Axis) (f g : List ℕ → V) → form O xs (λ ks. plus (f ks) (g ks)) ≡ plus (form O xs f) (form O xs g)
  form_plus [] f g = refl
  form_plus (x ∷ xs) f g =
      ap (eval O x.degree x.s x.t) (fun_ext (λ k. form_plus xs (λ ks. f (k ∷ ks)) (λ ks. g (k ∷ ks))))
      ∙ eval_plus M x.degree x.s x.t (λ k. form O xs (λ ks. f (k ∷ ks))) (λ k. form O xs (λ ks. g (k ∷ ks)))

  pub form_times : (xs : List Axis) (a : ℤ) (f : List ℕ → V) → form O xs (λ ks. times a (f ks)) ≡ times a (form O xs f)
  form_times [] a f = refl
  form_times (x ∷ xs) a f =
      ap (eval O x.degree x.s x.t) (fun_ext (λ k. form_times xs a (λ ks. f (k ∷ ks))))
      ∙ eval_times M x.degree x.s x.t a (λ k. form O xs (λ ks. f (k ∷ ks)))

  pub form_linear : (xs : List Axis) → Linear O (form O xs)
  form_linear xs = record { keeps_plus = form_plus xs; keeps_times = form_times xs }

  -- ---- the halves
  form_of_half : (h : Half) (xs : List Axis) (n k : ℕ) (g : ℕ → List ℕ → V) → form O xs (λ ks. half O h n (λ r. g r ks) k) ≡ half O h n (λ r. form O xs (g r)) k
  form_of_half Lower xs n k g =
      form_times xs (pow (pos 2) (n - k)) _ ∙ ap (times (pow (pos 2) (n - k))) (linear_total M (form_linear xs) (suc k) (λ r. pos (choose k r)) g)
  form_of_half Upper xs n k g =
      form_times xs (pow (pos 2) k) _ ∙ ap (times (pow (pos 2) k)) (linear_total M (form_linear xs) (suc (n - k)) (λ r. pos (choose (n - k) r)) (λ r. g (n - r)))

  half_evaluates : (h : Half) (x : Axis) (f : ℕ → V) → form O (toward h x ∷ []) (λ ks. half O h x.degree f (get_or ks 0 0)) ≡ times (pow (pos 2) x.degree) (eval O x.degree x.s x.t f)
  half_evaluates Lower x f = low_is_lower_half M x.degree x.s x.t f
  half_evaluates Upper x f = high_is_upper_half M x.degree x.s x.t f

  pub form_halves : (h : Half) (xs : List Axis) (j : ℕ) (f : List ℕ → V) → form O (change j (toward h) xs) (half_along O h (degrees xs) j f) ≡ times (pow (pos 2) (get_or (degrees xs) j 0)) (form O xs f)
  form_halves Lower [] j f = low_is_lower_half M 0 (pos 0) (pos 0) (λ r. f [])
  form_halves Upper [] j f = high_is_upper_half M 0 (pos 0) (pos 0) (λ r. f [])
  form_halves h (x ∷ xs) zero f =
      ap (λ g. form O (toward h x ∷ []) (λ ks. g (get_or ks 0 0))) (fun_ext (λ k. form_of_half h xs x.degree k (λ r ks. f (r ∷ ks))))
      ∙ half_evaluates h x (λ r. form O xs (λ ks. f (r ∷ ks)))
  form_halves h (x ∷ xs) (suc j) f =
      ap (eval O x.degree x.s x.t) (fun_ext (λ k. form_halves h xs j (λ ks. f (k ∷ ks))))
      ∙ eval_times M x.degree x.s x.t (pow (pos 2) (get_or (degrees xs) j 0)) (λ k. form O xs (λ ks. f (k ∷ ks)))

  -- ---- the corners
  at_end : (e : Half) (x : Axis) (f : ℕ → V) → distance e x ≡ pos 0 → eval O x.degree x.s x.t f ≡ times (pow (distance (other e) x) x.degree) (f (end_index e x.degree))
  at_end Lower x f z = ap (λ s. eval O x.degree s x.t f) z ∙ eval_at_lower_end M x.degree x.t f
  at_end Upper x f z = ap (λ t. eval O x.degree x.s t f) z ∙ eval_at_upper_end M x.degree x.s f

  pub form_at_corner : (xs : List Axis) (es : List Half) (f : List ℕ → V) → AtCorner xs es → form O xs f ≡ times (corner_weight xs es) (f (corner_index (degrees xs) es))
  form_at_corner [] [] f c = sym (one_times (f []))
  form_at_corner [] (e ∷ es) f c = absurd c
  form_at_corner (x ∷ xs) [] f c = absurd c
  form_at_corner (x ∷ xs) (e ∷ es) f c =
      let k : ℕ = end_index e x.degree in
      let a : ℤ = pow (distance (other e) x) x.degree in
      at_end e x (λ k. form O xs (λ ks. f (k ∷ ks))) c.0 ∙ ap (times a) (form_at_corner xs es (λ ks. f (k ∷ ks)) c.1)
      ∙ sym (times_times a (corner_weight xs es) (f (k ∷ corner_index (degrees xs) es)))

pub corner_has_index : (ns : List ℕ) (es : List Half) → Index ns (corner_index ns es)
corner_has_index [] es = tt
corner_has_index (n ∷ ns) [] = (omega arith, corner_has_index ns [])
corner_has_index (n ∷ ns) (Lower ∷ es) = (omega arith, corner_has_index ns es)
corner_has_index (n ∷ ns) (Upper ∷ es) = (omega arith, corner_has_index ns es)

-- an end is a positive distance from the other end
pub ends_apart : (e : Half) (x : Axis) → Between x → distance e x ≡ pos 0 → pos 0 <ℤ distance (other e) x
ends_apart Lower x b z = omega (arith, ints, z, b.apart)
ends_apart Upper x b z = omega (arith, ints, z, b.apart)

pub corner_weight_positive : (xs : List Axis) (es : List Half) → AllByRecursion Between xs → AtCorner xs es → pos 0 <ℤ corner_weight xs es
corner_weight_positive [] es b c = omega (arith, ints)
corner_weight_positive (x ∷ xs) [] b c = absurd c
corner_weight_positive (x ∷ xs) (e ∷ es) b c =
    let d : ℤ = distance (other e) x in
    pos-* (pow d x.degree) (corner_weight xs es) (pow_positive d x.degree (ends_apart e x b.0 c.0)) (corner_weight_positive xs es b.1 c.1)

pub corner_shows_sign : (xs : List Axis) (es : List Half) (f : List ℕ → Pair) → AllByRecursion Between xs → AtCorner xs es → sign_of (form pairs xs f) ≡ sign_of (f (corner_index (degrees xs) es))
corner_shows_sign xs es f b c = ap sign_of (form_at_corner pairs_laws xs es f c) ∙ multiple_keeps_sign (corner_weight xs es) _ (corner_weight_positive xs es b c)

-- ---- the sign
form_keeps : (P : Pair → Type 0) → ((x : Axis) → Between x → (f : ℕ → Pair) → ((k : ℕ) → k ≤ x.degree → P (f k)) → P (eval pairs x.degree x.s x.t f)) →
    (xs : List Axis) (f : List ℕ → Pair) → AllByRecursion Between xs → ((ks : List ℕ) → Index (degrees xs) ks → P (f ks)) → P (form pairs xs f)
form_keeps P one [] f b h = h [] tt
form_keeps P one (x ∷ xs) f b h =
    one x b.0 (λ k. form pairs xs (λ ks. f (k ∷ ks))) (λ k p. form_keeps P one xs (λ ks. f (k ∷ ks)) b.1 (λ ks q. h (k ∷ ks) (p, q)))

pub form_keeps_positive : (xs : List Axis) (f : List ℕ → Pair) → AllByRecursion Between xs → ((ks : List ℕ) → Index (degrees xs) ks → IsPositive (f ks)) → IsPositive (form pairs xs f)
form_keeps_positive = form_keeps IsPositive (λ x b f. eval_keeps_positive x.degree x.s x.t f b.above b.below b.apart)

pub form_keeps_not_negative : (xs : List Axis) (f : List ℕ → Pair) → AllByRecursion Between xs → ((ks : List ℕ) → Index (degrees xs) ks → NotNegative (f ks)) → NotNegative (form pairs xs f)
form_keeps_not_negative = form_keeps NotNegative (λ x b f. eval_keeps_not_negative x.degree x.s x.t f b.above b.below)
