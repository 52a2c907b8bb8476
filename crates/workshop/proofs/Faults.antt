-- A test whether a run has ended with a fault.
use Rattle.std.proofs.Common.{◌≡◌, ℕ, true, false, Some, None, Option, refl, arith}
use Rattle.std.specs.Option.{is_some}
use Rattle.machine.specs.declared.records.Fault.{Fault}

never : {A : Type 0} → ◌≡◌ {A = ℕ} 0 1 → A
never z = absurd (omega (arith, z))

pub no_fault : (o : Option Fault) → is_some o ≡ false → o ≡ None
no_fault None e = refl
no_fault (Some f) e = never cc

pub a_fault : (o : Option Fault) → is_some o ≡ true → (f : Fault) × (o ≡ Some f)
a_fault None e = never cc
a_fault (Some f) e = (f, refl)
