-- Orders are read back from their text.
use Rattle.std.proofs.Common.{◌≡◌, ℕ, ◌^◌, ◌<◌, ◌≤◌, true, ◌∷◌, decimal, refl, arith}
use Rattle.std.specs.Str.Parse.{digits_value}
use Rattle.std.specs.Str.{all_ascii_digits}
use Rattle.std.proofs.lemmas.Fmt.{decimal_nonempty, length-decimal-le, digits_decimal, digits_value-decimal}
use Rattle.std.proofs.lemmas.Str.Parse.{IsNumeralModel, numerals_by_value, tells_all_ascii_digits}
use Rattle.std.proofs.lemmas.Bool.{leb-true}
use Rattle.search.specs.declared.call.Call.TheVariants.{Run, Deepen, Verdict, Point}
use Rattle.orders.specs.Orders.{Numbered, OrdersAreReadBack}
use Rattle.orders.proofs.Exact.{orders_are_exact}

figures : IsNumeralModel (λ ds. all_ascii_digits ds ≡ true) (digits_value 10)
figures = numerals_by_value (λ ds. all_ascii_digits ds ≡ true) tells_all_ascii_digits

numbered_decimal : (k n : ℕ) → n ≤ 65535 → Numbered k (k ∷ 32 ∷ decimal n) n
numbered_decimal k n h =
    let w : n < 2 ^ 64 = omega arith in
    record {
      figures = decimal n;
      line_is = refl;
      are_digits = digits_decimal figures n w;
      some = decimal_nonempty n w;
      few = length-decimal-le 5 n (omega arith) (omega arith) w;
      value_is = digits_value-decimal figures n w;
      limit = h;
    }

pub orders_are_read_back : OrdersAreReadBack
orders_are_read_back (Run n) h = orders_are_exact.all _ (Run n) (numbered_decimal 114 n (leb-true n 65535 h))
orders_are_read_back (Deepen n) h = orders_are_exact.all _ (Deepen n) (numbered_decimal 100 n (leb-true n 65535 h))
orders_are_read_back Verdict h = refl
orders_are_read_back Point h = refl
