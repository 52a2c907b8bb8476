-- What becomes of the orders that arrived.
use Rattle.std.specs.Prelude.{◌≡◌, ℕ, ◌+◌, Bool, true, false, List, [], ◌∷◌, Some, None, Option}
use Rattle.elements.specs.declared.events.Event.{Event}
use Rattle.elements.specs.declared.events.EventKind.{EventKind}
use Rattle.elements.specs.declared.events.EventKind.TheVariants.{Arrive, Finish, Withdraw, Close}
use Rattle.machine.specs.declared.records.Totals.{Totals}
use Rattle.machine.specs.Machine.{Bounds, Machine, start_machine}
use Rattle.machine.specs.Step.{due_event}
use Rattle.machine.specs.Calls.{Call, a_form, a_step, call, is_stopped}
use Rattle.machine.specs.Closing.{totals, inside}
use Rattle.machine_laws.specs.Runs.{after}

abbrev pub is_arrival : EventKind → ℕ
is_arrival (Arrive i k) = 1
is_arrival (Finish i k) = 0
is_arrival (Withdraw i) = 0
is_arrival (Close k j) = 0

abbrev pub arriving_by : Option Event → ℕ
arriving_by None = 0
arriving_by (Some e) = is_arrival e.kind

-- how many arrive in a call: one where the step takes an arrive event
abbrev pub arriving : Call → Machine → ℕ
arriving (a_form f) m = 0
arriving a_step m = arriving_by (due_event m)

-- how many arrive in a list of calls, which a stop ends
abbrev pub arrived_by : Bool → (Machine → ℕ) → Machine → ℕ
arrived_by true others m = 0
arrived_by false others m = others m

abbrev pub arrived : List Call → Machine → ℕ
arrived [] m = 0
arrived (x ∷ xs) m = arriving x m + arrived_by (is_stopped (call x m)) (arrived xs) (call x m)

-- arrived = done + away + withdrawn + inside + stranded, and the other declared orders are yet to come
pub record Accounted (n : ℕ) (d : ℕ) (t : Totals) : Type 0 where
  pub arrived : n ≡ t.done + t.away + t.withdrawn + inside t + t.stranded
  pub declared : d ≡ n + t.pending

abbrev pub ArrivedAccounted : Type 0
ArrivedAccounted = (xs : List Call) (events lines : Bounds) (c : Option ℕ) → Accounted (arrived xs (start_machine events lines c)) (after xs events lines c).network.declared.orders (totals (after xs events lines c).network)
