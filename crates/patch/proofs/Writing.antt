-- A loop that writes over the start of a slice, and what a number of a slice means.
use Rattle.std.proofs.Common.{◌≡◌, ℕ, ◌+◌, ◌<◌, List, [], ◌∷◌, ◌++◌, map, length, get_or, take, drop, set, sym, ap, ◌∙◌, arith}
use Rattle.std.specs.List.{range_with_len}
use Rattle.std.proofs.lemmas.List.FromFn.{map-range_with_len_more}
use Rattle.std.proofs.lemmas.List.{append_assoc, map-append, drop_more, set_at, take_more_set, map_more, get_or-map, take_all, length-map, length-take-le}

pub read : {K V : Type 0} (f : K → V) (xs : List K) (i : ℕ) (x : K) (d : V) → i < length xs → x ≡ get_or xs i x → get_or (map f xs) i d ≡ f x
read f xs i x d l e = get_or-map f xs i x d l ∙ ap f (sym e)

module _ {X Y : Type 0} (f : X → Y) (xs : List X) (old new : List Y) (i : ℕ) (e : new ≡ map f (take i xs) ++ drop i old) where
  pub written_more : (d : X) (y : Y) → i < length xs → i < length old → y ≡ f (get_or xs i d) → set new i y ≡ map f (take (i + 1) xs) ++ drop (i + 1) old
  written_more d y l k h =
      let front = map f (take i xs) in
      let n : length front ≡ i = length-map (take i xs) f ∙ length-take-le i xs (omega arith) in
      ap (λ s. set s i y) e ∙ ap (λ t. set (front ++ t) i y) (drop_more old i y k) ∙ set_at front (get_or old i y) (drop (i + 1) old) y i n
      ∙ sym (append_assoc front (y ∷ []) (drop (i + 1) old))
      ∙ ap (λ s. s ++ drop (i + 1) old) (ap (λ z. front ++ z ∷ []) h ∙ sym (map_more f xs i d l))

  pub written_all : i ≡ length xs → new ≡ map f xs ++ drop (length (map f xs)) old
  written_all n =
      let k : i ≡ length (map f xs) = n ∙ sym (length-map xs f) in
      e ∙ ap (λ s. map f s ++ drop i old) (take_all i xs (omega arith)) ∙ ap (λ n. map f xs ++ drop n old) k

-- a loop that writes items which mean a function of their place, one more at place i
pub filled_more : {K V : Type 0} (f : K → V) (at : ℕ → V) (xs : List K) (i : ℕ) (x : K) → map f (take i xs) ≡ map at (range_with_len 0 i) → i < length xs → f x ≡ at i → map f (take (i + 1) (set xs i x)) ≡ map at (range_with_len 0 (i + 1))
filled_more f at xs i x h l e =
    ap (map f) (take_more_set xs i x l) ∙ map-append f (take i xs) (x ∷ []) ∙ (λ k. h k ++ e k ∷ []) ∙ sym (map-range_with_len_more at 0 i i (omega arith))

pub filled_all : {K V : Type 0} (f : K → V) (at : ℕ → V) (xs : List K) (i n : ℕ) → map f (take i xs) ≡ map at (range_with_len 0 i) → i ≡ n → n ≡ length xs → map f xs ≡ map at (range_with_len 0 n)
filled_all f at xs i n h p q = ap (map f) (sym (take_all i xs (omega arith))) ∙ h ∙ ap (λ n. map at (range_with_len 0 n)) p
