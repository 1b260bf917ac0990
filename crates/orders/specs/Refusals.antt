-- Why orders are refused.
use Rattle.std.specs.Prelude.{ℕ}
use Rattle.orders.specs.declared.refusal.OrderRefusal.{OrderRefusal}
use Rattle.orders.specs.declared.refusal.OrderRefusal.TheVariants.{Unreadable, TooLong}

-- the numbers of the refusals
abbrev pub order_refusal_number : OrderRefusal → ℕ
order_refusal_number Unreadable = 19
order_refusal_number TooLong = 20
