use Rattle.std.proofs.Common.{◌≡◌, ◌*◌, ◌%◌, ◌^◌, ◌≤◌, pos, ◌+ℤ◌, ◌-ℤ◌, ◌*ℤ◌, sym, ap, ◌∙◌, arith, pow_mono, mod-eq_of_lt, one-mul, rules, w32, w64, SFits, to_z, of_z}
use Rattle.patch.specs.Box.{end_place}
use Rattle.patch.proofs.CornerPoint.{pos_pow}
use Rattle.patch.proofs.Words.{answer_is, widened_is}
use Rattle.case.proofs.Corner.{places_fit, numerator_fits, numerator_is}
use Rattle.case.proofs.part.Part.end.Goals as goal

module _ (c : goal.After-from) where
  low : SFits w32 c.args.axis.now.lower
  low = search rules

  high : SFits w32 c.args.axis.now.upper
  high = search rules

  same : c.self.inside.halvings ≡ c.args.self.halvings
  same = ap (λ x. x.halvings) c.self.view_is

  few : 2 ^ c.args.self.halvings ≤ 16777216
  few = let l : c.args.self.halvings ≤ 24 = omega (arith, same, c.self.invariant.0) in pow_mono {i = c.args.self.halvings} {j = 24} l

  lower_is : to_z w64 (of_z w64 c.from-lower.result) ≡ c.args.axis.now.lower
  lower_is = widened_is c.args.axis.now.lower c.from-lower.type_inv low c.from-lower.ensures

  upper_is : to_z w64 (of_z w64 c.from.result) ≡ c.args.axis.now.upper
  upper_is = widened_is c.args.axis.now.upper c.from.type_inv high c.from.ensures

  parts_is : to_z w64 (of_z w64 c.from-parts.result) ≡ pos (2 ^ c.args.self.halvings)
  parts_is =
      let shifted : 1 * 2 ^ c.args.self.halvings % 4294967296 ≡ 2 ^ c.args.self.halvings = ap (λ n. n % 4294967296) (one-mul (2 ^ c.args.self.halvings)) ∙ mod-eq_of_lt (omega (arith, few)) in
      answer_is c.from-parts.type_inv (c.from-parts.ensures ∙ ap (λ h. pos (1 * 2 ^ h % 4294967296)) same ∙ ap pos shifted)

  place_is : to_z w64 (of_z w64 c.from-place.result) ≡ pos (end_place c.args.end c.args.self)
  place_is = answer_is c.from-place.type_inv (c.from-place.ensures ∙ ap pos c.end_place.ensures.value)

  within : end_place c.args.end c.args.self ≤ 2 ^ c.args.self.halvings
  within = omega (arith, c.end_place.ensures.value, c.end_place.ensures.within)

pub overflow_mul-result-2 : goal.overflow_mul-result-2
overflow_mul-result-2 c =
    let a = c.args.axis.now in
    places_fit a.lower a.upper (2 ^ c.args.self.halvings) (end_place c.args.end c.args.self) (low c) (high c) (few c) (within c) (lower_is c) (upper_is c) (parts_is c) (place_is c)

pub overflow_add-result : goal.overflow_add-result
overflow_add-result c =
    let a = c.args.axis.now in
    numerator_fits a.lower a.upper (2 ^ c.args.self.halvings) (end_place c.args.end c.args.self) (low c) (high c) (few c) (within c) (lower_is c) (upper_is c) (parts_is c) (place_is c)

pub returns : goal.returns
returns c =
    let a = c.args.axis.now in
    let x = c.args.self in
    let numerator =
    numerator_is a.lower a.upper (2 ^ x.halvings) (end_place c.args.end x) (low c) (high c) (few c) (within c) (lower_is c) (upper_is c) (parts_is c) (place_is c)
    ∙ ap (λ z. a.lower *ℤ z +ℤ (a.upper -ℤ a.lower) *ℤ pos (end_place c.args.end x)) (sym (pos_pow 2 x.halvings)) in
    λ i. record { numerator = numerator i; power = same c i }
