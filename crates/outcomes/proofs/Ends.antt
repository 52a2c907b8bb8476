-- What ends a row of calls: a refusal or a fault, or only a stop.
use Rattle.std.proofs.Common.{◌≡◌, ℕ, true, Some, None, Option, refl, ap, arith}
use Rattle.machine.specs.declared.forms.ScriptRefusal.{ScriptRefusal}
use Rattle.machine.specs.declared.records.StoreName.{StoreName}
use Rattle.machine.specs.declared.records.StoreName.TheVariants.{Events, Orders}
use Rattle.machine.specs.declared.records.Fault.{Fault}
use Rattle.machine.specs.Machine.{Machine, is_some, halted, halted_by, as_is, strand}
use Rattle.machine.specs.Puts.{stopped, stopped_by}
use Rattle.outcomes.specs.Simulation.{entries_in}
use Rattle.outcomes.specs.Composition.{Ends, Tidy}

halts : (r : Option ScriptRefusal) (f : Option Fault) (s : StoreName) → stopped_by r f ≡ Some s → halted_by r f ≡ true
halts None None s e = absurd (let z : ◌≡◌ {A = ℕ} 0 1 = cc in omega arith)
halts None (Some f) s e = refl
halts (Some r) f s e = refl

pub ends_halted : Ends halted
ends_halted = record { at_stop = λ m s e. halts m.refusal m.fault s e; blind = λ m c. refl }

pub ends_stopped : Ends (λ m. is_some (stopped m))
ends_stopped = record { at_stop = λ m s e. ap is_some e; blind = λ m c. refl }

pub tidy_as_is : Tidy as_is
tidy_as_is = record { stop = λ m. refl; entries = λ m s. refl; cut = λ m c. refl }

pub tidy_strand : (i : ℕ) → Tidy (strand i)
tidy_strand i = record { stop = λ m. refl; entries = entries_by; cut = λ m c. refl }
  where
    entries_by : (m : Machine) (s : StoreName) → entries_in (strand i m) s ≡ entries_in m s
    entries_by m Events = refl
    entries_by m Orders = refl
