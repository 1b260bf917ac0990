-- What is left gives the value of the whole, and five digits keep the value in its word.
use Rattle.std.proofs.Common.{◌≡◌, ◌^◌, ◌<◌, drop}
use Rattle.orders.specs.Orders.{digits_value}
use Rattle.orders.proofs.order.digits.Given as goal

abbrev pub invariant-loop-b : goal.invariant-loop-b
invariant-loop-b l = (digits_value 0 l.text ≡ digits_value l.value (drop l.b-index l.text)) × (l.value < 10 ^ l.b-index)
