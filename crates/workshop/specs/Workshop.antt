-- What a run and a workshop are to the machine.
use Rattle.std.specs.Prelude.{◌≡◌, ℕ, List, Some, None}
use Rattle.elements.specs.declared.events.Event.{Event}
use Rattle.elements.specs.declared.lines.LineEntry.{LineEntry}
use Rattle.stores.specs.Meaning.{Meaning}
use Rattle.machine.specs.declared.networks.Network.{Network}
use Rattle.machine.specs.declared.records.Record.{Record}
use Rattle.machine.specs.Machine.{Machine}
use Rattle.outcomes.specs.Simulation.{Control, Simulation}
use Rattle.simulations.specs.Calls.{Call}
use Rattle.simulations.specs.Conditions.{Fit}
use Rattle.simulations.specs.Writes.{simulation}
use Rattle.workshop.specs.declared.Run.{Run}
use Rattle.workshop.specs.declared.Workshop.{Workshop}

-- a network while a run goes on, with so many of the lent places written
abbrev pub under_way : Network → Run → ℕ → Control
under_way n r u = record { instant = r.instant; end = Some r.end; network = n; refusal = None; fault = r.fault; used = u }

abbrev pub control : {E O : Type 0} → Workshop E O → Control
control w = under_way w.net.now w.run.now w.used

-- with both stores, by what each means, and the lent places
abbrev pub simulated : {E O : Type 0} → (E → Meaning Event) → (O → Meaning LineEntry) → Workshop E O → Simulation
simulated m l w = simulation (control w) (m w.events.now) (l w.orders.now) w.places.now

-- both stores are sound
abbrev pub Sound : {E O : Type 0} → (E → Type 0) → (O → Type 0) → Workshop E O → Type 0
Sound P Q w = P w.events.now × Q w.orders.now

-- what every call in a workshop needs, and keeps
pub record Ready {E O : Type 0} (P : E → Type 0) (Q : O → Type 0) (m : E → Meaning Event) (l : O → Meaning LineEntry) (w : Workshop E O) : Type 0 where
  pub sound : Sound P Q w
  pub fit : Fit (simulated m l w)

-- the workshop with that control and with those records in its places; both stores stay as they are
abbrev pub left : {E O : Type 0} → Workshop E O → Control → List Record → Workshop E O
left w d ps = record {
  net = record w.net { now = d.network };
  run = record w.run { now = record { instant = d.instant; end = w.run.now.end; fault = d.fault } };
  events = w.events;
  orders = w.orders;
  places = record w.places { now = ps };
  used = d.used;
}

-- v holds the references that w holds
abbrev pub Same : {E O : Type 0} → Workshop E O → Workshop E O → Type 0
Same w v = (v.net.ghost_name ≡ w.net.ghost_name) × (v.run.ghost_name ≡ w.run.ghost_name) × (v.events.ghost_name ≡ w.events.ghost_name) × (v.orders.ghost_name ≡ w.orders.ghost_name) × (v.places.ghost_name ≡ w.places.ghost_name)

-- what a call in a workshop keeps and does, which runs as the machine's f and writes at most n records
pub record Works {E O : Type 0} (P : E → Type 0) (Q : O → Type 0) (m : E → Meaning Event) (l : O → Meaning LineEntry) (f : Machine → Machine) (n : ℕ) (w v : Workshop E O) : Type 0 where
  pub sound : Sound P Q v
  pub call : Call f n (simulated m l w) (simulated m l v)
  pub same : Same w v
