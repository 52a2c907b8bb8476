-- What a call of the simulator sees, and the machine's state that this is.
use Rattle.std.specs.Prelude.{ℕ, ◌+◌, List, ◌++◌, take, None, Option}
use Rattle.elements.specs.declared.events.Event.{Event}
use Rattle.elements.specs.declared.lines.LineEntry.{LineEntry}
use Rattle.stores.specs.Meaning.{Meaning, live}
use Rattle.machine.specs.declared.networks.Network.{Network}
use Rattle.machine.specs.declared.forms.ScriptRefusal.{ScriptRefusal}
use Rattle.machine.specs.declared.records.Record.{Record}
use Rattle.machine.specs.declared.records.StoreName.{StoreName}
use Rattle.machine.specs.declared.records.StoreName.TheVariants.{Events, Orders}
use Rattle.machine.specs.declared.records.Fault.{Fault}
use Rattle.machine.specs.Machine.{Store, Machine, bounds_of}

-- what a draft or a running network holds
pub record Control : Type 0 where
  pub instant : ℕ
  -- none in a draft
  pub end : Option ℕ
  pub network : Network
  -- why the last call was refused
  pub refusal : Option ScriptRefusal
  pub fault : Option Fault
  -- how many of the lent places were written
  pub used : ℕ

-- with both stores, and the places that are lent for records
pub record Simulation : Type 0 where
  pub control : Control
  pub events : Meaning Event
  pub lines : Meaning LineEntry
  pub places : List Record

-- how many entries were taken from each store
pub record Takes : Type 0 where
  pub events : ℕ
  pub lines : ℕ

abbrev pub no_takes : Takes
no_takes = record { events = 0; lines = 0 }

abbrev pub takes_in : Takes → StoreName → ℕ
takes_in x Events = x.events
takes_in x Orders = x.lines

abbrev pub plus : Takes → Takes → Takes
plus x y = record { events = x.events + y.events; lines = x.lines + y.lines }

-- what earlier calls left that no call looks at: their records and takes
pub record Earlier : Type 0 where
  pub records : List Record
  pub takes : Takes

abbrev pub and_takes : Earlier → Takes → Earlier
and_takes t x = record { records = t.records; takes = plus t.takes x }

abbrev pub store_of : {T : Type 0} → Meaning T → ℕ → Store T
store_of m n = record { state = m.state; bounds = bounds_of m.fixed; taken = n }

-- the machine, never stopped, in the state that the simulation is in
abbrev pub machine_of : Earlier → Simulation → Machine
machine_of t s = record {
  instant = s.control.instant;
  end = s.control.end;
  network = s.control.network;
  events = store_of s.events t.takes.events;
  lines = store_of s.lines t.takes.lines;
  records = t.records ++ take s.control.used s.places;
  refusal = s.control.refusal;
  fault = s.control.fault;
  cut = None;
}

-- a store's cells, how many of them are in use, and how many stamps were given out
abbrev pub cells : Simulation → StoreName → ℕ
cells s Events = s.events.fixed.cells
cells s Orders = s.lines.fixed.cells

abbrev pub uses : Simulation → StoreName → ℕ
uses s Events = live s.events.state + s.events.held
uses s Orders = live s.lines.state + s.lines.held

abbrev pub issued : Simulation → StoreName → ℕ
issued s Events = s.events.state.next
issued s Orders = s.lines.state.next

-- the machine's entries in a store, the stamps that it gave out, and the entries that it took
abbrev pub entries_in : Machine → StoreName → ℕ
entries_in m Events = live m.events.state
entries_in m Orders = live m.lines.state

abbrev pub issued_in : Machine → StoreName → ℕ
issued_in m Events = m.events.state.next
issued_in m Orders = m.lines.state.next

abbrev pub taken_in : Machine → StoreName → ℕ
taken_in m Events = m.events.taken
taken_in m Orders = m.lines.taken
