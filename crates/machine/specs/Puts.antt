-- A put, as the machine makes it: refused for the queue's number, its limits, a stop, or the stamps; else the entry
-- enters its list.
use Rattle.std.specs.Prelude.{ℕ, zero, suc, Bool, true, false, List, [], Some, None, Ok, Err, Option, Result, ◌==◌, nat_le, slice_index_or}
use Rattle.elements.specs.declared.events.Event.{Event}
use Rattle.elements.specs.declared.lines.LineEntry.{LineEntry}
use Rattle.elements.specs.Elements.{event_le, line_le}
use Rattle.stores.specs.declared.refusals.Refusal.{Refusal}
use Rattle.stores.specs.declared.refusals.Refusal.TheVariants.{QueueNumber, SameQueue, AtLimit, NoCell, NoStamp, NotQueued}
use Rattle.stores.specs.Meaning.{Pair, State, count_of, reached, reached_height}
use Rattle.stores.specs.Calls.{put_after}
use Rattle.machine.specs.declared.forms.FormRefusal.{FormRefusal}
use Rattle.machine.specs.declared.forms.FormRefusal.TheVariants.{OutOfRange, OutOfPlace, Undeclared, Store as store-refused}
use Rattle.machine.specs.declared.forms.ScriptRefusal.{ScriptRefusal}
use Rattle.machine.specs.declared.forms.ScriptRefusal.TheVariants.{TooLong, Malformed, Form as form-refused}
use Rattle.machine.specs.declared.records.StoreName.{StoreName}
use Rattle.machine.specs.declared.records.StoreName.TheVariants.{Events}
use Rattle.machine.specs.declared.records.Fault.{Fault}
use Rattle.machine.specs.Machine.{Bounds, Store, Machine, with_cut, with_events, with_lines, listed}

-- the limits of queue q
abbrev pub bound_at : Bounds → ℕ → List Pair
bound_at b q = slice_index_or b.pairs q []

-- what a put answers, what it leaves, and how many puts may follow
pub record Tried (T : Type 0) : Type 0 where
  pub answer : Result ℕ Refusal
  pub state : State T
  pub cut : Option ℕ

module _ {T : Type 0} (le : T → T → Bool) where
  abbrev pub refused_with : Refusal → Option ℕ → State T → Tried T
  refused_with f c s = record { answer = Err f; state = s; cut = c }

  -- there is a cell: whether all stamps are given out
  abbrev pub stamped : Bool → Option ℕ → State T → ℕ → T → Tried T
  stamped true c s q x = refused_with NoStamp c s
  stamped false c s q x = record { answer = Ok s.next; state = put_after le s q x (Ok s.next); cut = c }

  -- whether the machine is stopped here
  abbrev pub celled : Option ℕ → Bool → State T → ℕ → T → Tried T
  celled None spent s q x = stamped spent None s q x
  celled (Some zero) spent s q x = refused_with NoCell (Some 0) s
  celled (Some (suc c)) spent s q x = stamped spent (Some c) s q x

  -- whether the queue's number is wrong, whether it is at a limit of that height
  abbrev pub tried_by : Bool → Bool → Bool → ℕ → Option ℕ → State T → ℕ → T → Tried T
  tried_by true full spent h c s q x = refused_with QueueNumber c s
  tried_by false true spent h c s q x = refused_with (AtLimit h) c s
  tried_by false false spent h c s q x = celled c spent s q x

  abbrev pub try : Option ℕ → Store T → ℕ → T → Tried T
  try c s q x = tried_by (nat_le 32 q) (reached (bound_at s.bounds q) (count_of s.state q)) (s.state.next == s.bounds.stamps) (reached_height (bound_at s.bounds q) (count_of s.state q)) c s.state q x

-- what follows a put
abbrev pub Continuation : Type 0
Continuation = Result ℕ Refusal → Machine → Machine

abbrev pub event_tried : Continuation → Machine → Tried Event → Machine
event_tried then m t = then t.answer (with_cut (with_events m (listed m.events t.state)) t.cut)

-- an event is put in queue 0 of the event store
abbrev pub put_event : (Machine → Event) → Continuation → Machine → Machine
put_event x then m = event_tried then m (try event_le m.cut m.events 0 (x m))

abbrev pub line_tried : Continuation → Machine → Tried LineEntry → Machine
line_tried then m t = then t.answer (with_cut (with_lines m (listed m.lines t.state)) t.cut)

-- an order is put in line k
abbrev pub put_line : ℕ → (Machine → LineEntry) → Continuation → Machine → Machine
put_line k x then m = line_tried then m (try line_le m.cut m.lines k (x m))

-- Only a stop answers "no cell". The store of the put at which the machine was stopped:

abbrev pub no_cell_in : Refusal → StoreName → Option StoreName
no_cell_in QueueNumber s = None
no_cell_in SameQueue s = None
no_cell_in (AtLimit h) s = None
no_cell_in NoCell s = Some s
no_cell_in NoStamp s = None
no_cell_in (NotQueued h) s = None

abbrev pub form_stopped : FormRefusal → Option StoreName
form_stopped OutOfRange = None
form_stopped OutOfPlace = None
form_stopped Undeclared = None
form_stopped (store-refused f) = no_cell_in f Events

abbrev pub script_stopped : ScriptRefusal → Option StoreName
script_stopped TooLong = None
script_stopped Malformed = None
script_stopped (form-refused f) = form_stopped f

abbrev pub stopped_by : Option ScriptRefusal → Option Fault → Option StoreName
stopped_by None None = None
stopped_by None (Some f) = no_cell_in f.refusal f.store
stopped_by (Some r) f = script_stopped r

abbrev pub stopped : Machine → Option StoreName
stopped m = stopped_by m.refusal m.fault
