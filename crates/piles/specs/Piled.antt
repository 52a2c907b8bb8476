-- What it means to test and make layers over layers in one call.
use Rattle.std.specs.Prelude.{◌≡◌, ℕ, ◌<◌, ◌≤◌, Ok, Err, Result}
use Rattle.stores.specs.declared.refusals.Unfit.{Unfit}
use Rattle.stores.specs.declared.refusals.Unfit.TheVariants.{OutOfRange}
use Rattle.stores.specs.Meaning.{Meaning}

-- it is made exactly where P holds, and else refused with 1
abbrev pub MadeIf : {S : Type 0} → Result S Unfit → Type 0 → Type 0
MadeIf (Ok s) P = P
MadeIf (Err e) P = (e ≡ OutOfRange) × (P → ⊥)

-- Q holds of what was made
abbrev pub OfMade : {S : Type 0} → Result S Unfit → (S → Type 0) → Type 0
OfMade (Ok s) Q = Q s
OfMade (Err e) Q = Unit {0}

-- a journal may have J places
abbrev pub Places : ℕ → Type 0
Places J = (1 ≤ J) × (J ≤ 1024)

-- two more layers may stand over a store that means m
abbrev pub TwoMore : {T : Type 0} → Meaning T → Type 0
TwoMore m = m.fixed.height < 254
