-- A chain of checks: where it goes on, and where it stops.
use Rattle.std.proofs.Common.{◌≡◌, Bool, true, false, ℤ, IsErrAnd, Ok, Err, Result, refl, ap, ◌∙◌, w32, SFits, to_z, of_z}
use Rattle.std.proofs.lemmas.Result.{err_from_is_err_and}
use Rattle.std.proofs.lemmas.Int.{to_z-of_z}
use Rattle.ticket.specs.Faults.{next, checked}
use Rattle.ticket.specs.declared.fault.Fault.{Fault}

pub through : {X Y : Type 0} {r : Result X Fault} {x : X} (f : X → Result Y Fault) {s : Result Y Fault} → Ok x ≡ r → s ≡ f x → s ≡ next r f
through f p q = q ∙ ap (λ r. next r f) p

pub stops : {X Y : Type 0} {r : Result X Fault} {e : Fault} (f : X → Result Y Fault) → Err e ≡ r → Err e ≡ next r f
stops f p = ap (λ r. next r f) p

-- what a `?` returns is the fault that it met, also as a view shows it that keeps faults
pub exit_as : {X Y : Type 0} {e : Fault} {s : Result Y Fault} (view : Result X Fault → Result Y Fault) → ((y : Fault) → view (Err y) ≡ Err y) → (r : Result X Fault) → IsErrAnd r (λ y. y ≡ e) → Err e ≡ s → view r ≡ s
exit_as view keeps r h q = let p = err_from_is_err_and r h in ap view p.1 ∙ keeps p.0 ∙ ap Err p.2 ∙ q

pub exit : {Y : Type 0} {e : Fault} {s : Result Y Fault} {r : Result Y Fault} → IsErrAnd r (λ y. y ≡ e) → Err e ≡ s → r ≡ s
exit {r} h q = exit_as (λ x. x) (λ _. refl) r h q

-- a test that a call answered
pub told : {b b' : Bool} (f : Fault) {r : Result (Unit {0}) Fault} → b ≡ b' → r ≡ checked b f → r ≡ checked b' f
told f e h = h ∙ ap (λ t. checked t f) e

pub passed : (b : Bool) (f : Fault) (x : Unit {0}) → Ok x ≡ checked b f → b ≡ true
passed true f x e = refl
passed false f x e = cc

-- a signed number that is passed on is the number
pub sent : {x z : ℤ} → SFits w32 x → x ≡ z → to_z w32 (of_z w32 x) ≡ z
sent {x} f e = to_z-of_z w32 x f ∙ e
