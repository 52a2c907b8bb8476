-- The steps of a run, one after the other.
use Rattle.std.proofs.Common.{◌≡◌, ℕ, zero, suc, Some, None, Option, refl, ap, arith}
use Rattle.elements.specs.declared.events.Event.{Event}
use Rattle.machine.specs.declared.forms.ScriptRefusal.{ScriptRefusal}
use Rattle.machine.specs.declared.records.Fault.{Fault}
use Rattle.machine.specs.declared.records.StoreName.{StoreName}
use Rattle.machine.specs.Machine.{Machine}
use Rattle.machine.specs.Puts.{stopped, stopped_by}
use Rattle.machine.specs.Step.{due_by, due_event, next_event, step, steps_by, steps}
use Rattle.whole_runs.proofs.Calm.{calm_step}

-- nothing is due after a fault, so that steps change nothing
rest_by : (n : ℕ) (m : Machine) → due_event m ≡ None → steps n m ≡ m
rest_by zero m e = refl
rest_by (suc n) m e = ap (λ o. steps_by o (steps n) m) e

pub steps_rest : (n : ℕ) (m : Machine) → due_event m ≡ None → steps n m ≡ m
steps_rest = rest_by

pub steps_more : (n : ℕ) (m : Machine) (x : Event) → due_event m ≡ Some x → steps (suc n) m ≡ steps n (step m)
steps_more n m x e = ap (λ o. steps_by o (steps n) m) e

faulted : (r : Option ScriptRefusal) (f : Option Fault) (s : StoreName) → r ≡ None → stopped_by r f ≡ Some s → (x : Fault) × (f ≡ Some x)
faulted (Some r) f s e h = absurd (let z : ◌≡◌ {A = ℕ} 0 1 = cc in omega arith)
faulted None None s e h = absurd (let z : ◌≡◌ {A = ℕ} 0 1 = cc in omega arith)
faulted None (Some x) s e h = (x, refl)

-- a step that is stopped ends the run
pub stopped_rests : (n : ℕ) (m : Machine) (s : StoreName) → stopped (step m) ≡ Some s → steps n (step m) ≡ step m
stopped_rests n m s h =
    let f = faulted (step m).refusal (step m).fault s (calm_step m) h in
    rest_by n (step m) (ap (λ x. due_by x (step m).end (next_event (step m))) f.1)
