-- Pairs are a module over ℤ, and so are the integers themselves.
use Rattle.std.proofs.Common.{◌≡◌, negsuc, arith}
use lib.IntN.{+ℤ_assoc, +ℤ_comm, +ℤ_idr, zero-*ℤ}
use Rattle.std.proofs.lemmas.Int.{ints}
use Rattle.algebra.specs.Module.{integers}
use Rattle.algebra.specs.Pair.{Pair, pair, pairs, multiple, opposite}
use Rattle.algebra.proofs.Integers.{*ℤ-assoc, *ℤ-+ℤ, +ℤ-*ℤ, one-*ℤ}
use Rattle.algebra.proofs.Module.{Module}

pub pair-≡ : {x y : Pair} → x.value ≡ y.value → x.drift ≡ y.drift → x ≡ y
pair-≡ p q = λ i. pair (p i) (q i)

abbrev pub integers_laws : Module integers
integers_laws = record {
  plus_assoc = +ℤ_assoc;
  plus_comm = +ℤ_comm;
  plus_nought = +ℤ_idr;
  times_plus = *ℤ-+ℤ;
  plus_times = +ℤ-*ℤ;
  times_times = *ℤ-assoc;
  one_times = one-*ℤ;
  zero_times = zero-*ℤ;
}

abbrev pub pairs_laws : Module pairs
pairs_laws = record {
  plus_assoc = λ x y z. pair-≡ (+ℤ_assoc x.value y.value z.value) (+ℤ_assoc x.drift y.drift z.drift);
  plus_comm = λ x y. pair-≡ (+ℤ_comm x.value y.value) (+ℤ_comm x.drift y.drift);
  plus_nought = λ x. pair-≡ (+ℤ_idr x.value) (+ℤ_idr x.drift);
  times_plus = λ a x y. pair-≡ (*ℤ-+ℤ a x.value y.value) (*ℤ-+ℤ a x.drift y.drift);
  plus_times = λ a b x. pair-≡ (+ℤ-*ℤ a b x.value) (+ℤ-*ℤ a b x.drift);
  times_times = λ a b x. pair-≡ (*ℤ-assoc a b x.value) (*ℤ-assoc a b x.drift);
  one_times = λ x. pair-≡ (one-*ℤ x.value) (one-*ℤ x.drift);
  zero_times = λ x. pair-≡ (zero-*ℤ x.value) (zero-*ℤ x.drift);
}

pub opposite_is_multiple : (x : Pair) → opposite x ≡ multiple (negsuc 0) x
opposite_is_multiple x = pair-≡ (omega (arith, ints)) (omega (arith, ints))
