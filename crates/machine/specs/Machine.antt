-- The state of the sorted-list machine, and its parts replaced one at a time.
use Rattle.std.specs.Prelude.{ℕ, ◌+◌, Bool, true, false, List, [], ◌∷◌, ◌++◌, Some, None, Option}
use Rattle.elements.specs.declared.events.Event.{Event}
use Rattle.elements.specs.declared.lines.LineEntry.{LineEntry}
use Rattle.stores.specs.declared.refusals.Refusal.{Refusal}
use Rattle.stores.specs.Meaning.{Pair, State, Fixed, fresh}
use Rattle.machine.specs.declared.networks.Network.{Network}
use Rattle.machine.specs.declared.networks.OrderState.{OrderState}
use Rattle.machine.specs.declared.networks.OrderState.TheVariants.{Stranded}
use Rattle.machine.specs.declared.forms.ScriptRefusal.{ScriptRefusal}
use Rattle.machine.specs.declared.records.RecordKind.{RecordKind}
use Rattle.machine.specs.declared.records.Record.{Record}
use Rattle.machine.specs.declared.records.StoreName.{StoreName}
use Rattle.machine.specs.declared.records.Fault.{Fault}
use Rattle.machine.specs.Network.{cleared, marked}

-- what the machine knows of a store beforehand: each queue's limits, and how many stamps it gives out. There is no bound
-- on cells.
pub record Bounds : Type 0 where
  pub pairs : List (List Pair)
  pub stamps : ℕ

abbrev pub bounds_of : Fixed → Bounds
bounds_of f = record { pairs = f.pairs; stamps = f.stamps }

-- a store as the machine has it
pub record Store (T : Type 0) : Type 0 where
  -- the sorted lists and the next stamp
  pub state : State T
  pub bounds : Bounds
  -- how many entries were taken from it; only what is claimed of cells looks at this
  pub taken : ℕ

pub record Machine : Type 0 where
  pub instant : ℕ
  -- the tick of the end form; none while forms are taken
  pub end : Option ℕ
  pub network : Network
  pub events : Store Event
  -- line k is the list of queue k
  pub lines : Store LineEntry
  pub records : List Record
  -- why the last form or line was refused
  pub refusal : Option ScriptRefusal
  -- why the run ended before its end
  pub fault : Option Fault
  -- the machine can be stopped at a put: after so many puts more, a put is answered as by a store that has no cell
  -- left. With none it is never stopped, and is the machine of the rules.
  pub cut : Option ℕ

abbrev pub unused : {T : Type 0} → Bounds → Store T
unused b = record { state = fresh; bounds = b; taken = 0 }

-- at first: both stores with nothing put, no form taken
abbrev pub start_machine : Bounds → Bounds → Option ℕ → Machine
start_machine events lines c = record { instant = 0; end = None; network = cleared; events = unused events; lines = unused lines; records = []; refusal = None; fault = None; cut = c }

abbrev pub with_cut : Machine → Option ℕ → Machine
with_cut m c = record { instant = m.instant; end = m.end; network = m.network; events = m.events; lines = m.lines; records = m.records; refusal = m.refusal; fault = m.fault; cut = c }

abbrev pub with_instant : Machine → ℕ → Machine
with_instant m t = record { instant = t; end = m.end; network = m.network; events = m.events; lines = m.lines; records = m.records; refusal = m.refusal; fault = m.fault; cut = m.cut }

abbrev pub with_end : Machine → ℕ → Machine
with_end m t = record { instant = m.instant; end = Some t; network = m.network; events = m.events; lines = m.lines; records = m.records; refusal = m.refusal; fault = m.fault; cut = m.cut }

abbrev pub with_network : Machine → Network → Machine
with_network m n = record { instant = m.instant; end = m.end; network = n; events = m.events; lines = m.lines; records = m.records; refusal = m.refusal; fault = m.fault; cut = m.cut }

abbrev pub with_events : Machine → Store Event → Machine
with_events m s = record { instant = m.instant; end = m.end; network = m.network; events = s; lines = m.lines; records = m.records; refusal = m.refusal; fault = m.fault; cut = m.cut }

abbrev pub with_lines : Machine → Store LineEntry → Machine
with_lines m s = record { instant = m.instant; end = m.end; network = m.network; events = m.events; lines = s; records = m.records; refusal = m.refusal; fault = m.fault; cut = m.cut }

abbrev pub with_refusal : Machine → Option ScriptRefusal → Machine
with_refusal m r = record { instant = m.instant; end = m.end; network = m.network; events = m.events; lines = m.lines; records = m.records; refusal = r; fault = m.fault; cut = m.cut }

-- a line, or its form, is refused
abbrev pub refuse : ScriptRefusal → Machine → Machine
refuse r m = with_refusal m (Some r)

-- one record more, told at the instant
abbrev pub tell : RecordKind → Machine → Machine
tell x m = record { instant = m.instant; end = m.end; network = m.network; events = m.events; lines = m.lines; records = m.records ++ (record { at = m.instant; kind = x } ∷ []); refusal = m.refusal; fault = m.fault; cut = m.cut }

-- a refused put ends the run: the step is not refused, it tells the fault
abbrev pub fail : Refusal → StoreName → Machine → Machine
fail f s m = record { instant = m.instant; end = m.end; network = m.network; events = m.events; lines = m.lines; records = m.records; refusal = None; fault = Some (record { refusal = f; store = s; instant = m.instant }); cut = m.cut }

abbrev pub mark : ℕ → OrderState → Machine → Machine
mark i st m = with_network m (marked i st m.network)

-- order i was in hand when the run ended
abbrev pub strand : ℕ → Machine → Machine
strand i m = mark i Stranded m

-- a store with other lists
abbrev pub listed : {T : Type 0} → Store T → State T → Store T
listed s x = record { state = x; bounds = s.bounds; taken = s.taken }

-- one entry fewer, which was taken
abbrev pub less_one : {T : Type 0} → Store T → State T → Store T
less_one s x = record { state = x; bounds = s.bounds; taken = s.taken + 1 }

abbrev pub is_some : {X : Type 0} → Option X → Bool
is_some None = false
is_some (Some x) = true

-- a line was refused, or the run ended with a fault
abbrev pub halted_by : Option ScriptRefusal → Option Fault → Bool
halted_by None f = is_some f
halted_by (Some r) f = true

abbrev pub halted : Machine → Bool
halted m = halted_by m.refusal m.fault

-- one after the other: g where the test fails of what f left, else h
abbrev pub branch : Bool → (Machine → Machine) → (Machine → Machine) → Machine → Machine
branch false g h m = g m
branch true g h m = h m

abbrev pub seq_by : (Machine → Bool) → (Machine → Machine) → (Machine → Machine) → (Machine → Machine) → Machine → Machine
seq_by ends f g h m = branch (ends (f m)) g h (f m)

-- g unless f halted, and then h
abbrev pub seq_else : (Machine → Machine) → (Machine → Machine) → (Machine → Machine) → Machine → Machine
seq_else = seq_by halted

abbrev pub as_is : Machine → Machine
as_is m = m

-- g unless f halted
abbrev pub seq : (Machine → Machine) → (Machine → Machine) → Machine → Machine
seq f g = seq_else f g as_is
