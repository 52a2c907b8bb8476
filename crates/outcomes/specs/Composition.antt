-- How outcomes compose, for any functions of the machine.
use Rattle.std.specs.Prelude.{◌≡◌, ℕ, Bool, true, false, length, Some, Err, Option, Result}
use Rattle.elements.specs.declared.events.Event.{Event}
use Rattle.elements.specs.declared.lines.LineEntry.{LineEntry}
use Rattle.elements.specs.Elements.{event_le, line_le}
use Rattle.stores.specs.declared.refusals.Refusal.{Refusal}
use Rattle.stores.specs.declared.refusals.Refusal.TheVariants.{NoCell}
use Rattle.stores.specs.Promises.{Puts}
use Rattle.machine.specs.declared.records.StoreName.{StoreName}
use Rattle.machine.specs.declared.records.StoreName.TheVariants.{Events, Orders}
use Rattle.machine.specs.Machine.{Machine, with_cut, with_events, with_lines, strand, is_some, halted, seq_by, as_is}
use Rattle.machine.specs.Puts.{Continuation, put_event, put_line, stopped}
use Rattle.outcomes.specs.Simulation.{Simulation, Takes, Earlier, machine_of, and_takes, store_of, cells, uses, issued, entries_in}
use Rattle.outcomes.specs.Outcomes.{Counted, Agreed, Written, Outcome, Whole}

-- a test that holds of a stopped machine, and does not look at where it is stopped
pub record Ends (ends : Machine → Bool) : Type 0 where
  pub at_stop : (m : Machine) (s : StoreName) → stopped m ≡ Some s → ends m ≡ true
  pub blind : (m : Machine) (c : Option ℕ) → ends (with_cut m c) ≡ ends m

-- h puts nothing, and leaves the lists, the stop and what is told of it: as where an order in hand is stranded
pub record Tidy (h : Machine → Machine) : Type 0 where
  pub stop : (m : Machine) → stopped (h m) ≡ stopped m
  pub entries : (m : Machine) (s : StoreName) → entries_in (h m) s ≡ entries_in m s
  pub cut : (m : Machine) (c : Option ℕ) → h (with_cut m c) ≡ with_cut (h m) c

-- d is what h makes of b
pub record Left (h : Machine → Machine) (b d : Simulation) : Type 0 where
  pub same : (t : Earlier) → machine_of t d ≡ h (machine_of t b)
  pub uses : (s : StoreName) → uses d s ≡ uses b s
  pub issued : (s : StoreName) → issued d s ≡ issued b s
  pub cells : (s : StoreName) → cells d s ≡ cells b s
  pub written : Written b d

-- f is g after a part that puts nothing and leads from a to b
pub record Onward (f g : Machine → Machine) (a b : Simulation) : Type 0 where
  pub takes : Takes
  pub same : (t : Earlier) (c : Option ℕ) → f (with_cut (machine_of t a) c) ≡ g (with_cut (machine_of (and_takes t takes) b) c)
  pub cells : (s : StoreName) → cells b s ≡ cells a s
  pub counted : Counted takes a b
  pub written : Written a b

-- what follows a put into that store does not look at where the machine is stopped, and tells the stop
pub record Follows (then : Continuation) (store : StoreName) : Type 0 where
  pub cut : (r : Result ℕ Refusal) (m : Machine) (c : Option ℕ) → then r (with_cut m c) ≡ with_cut (then r m) c
  pub stop : (m : Machine) → stopped (then (Err NoCell) m) ≡ Some store
  pub entries : (m : Machine) (s : StoreName) → entries_in (then (Err NoCell) m) s ≡ entries_in m s

-- one put into the event store, and what follows it
pub record EventPut (then : Continuation) (x : Machine → Event) (a b : Simulation) (e : Event) (r : Result ℕ Refusal) : Type 0 where
  pub follows : Follows then Events
  pub blind : (m : Machine) (c : Option ℕ) → x (with_cut m c) ≡ x m
  pub element : (t : Earlier) → x (machine_of t a) ≡ e
  pub inside : length a.events.state.lists ≡ 32
  pub puts : Puts event_le a.events 0 e r b.events
  pub same : (t : Earlier) → machine_of t b ≡ then r (with_events (machine_of t a) (store_of b.events t.takes.events))
  pub lines : b.lines ≡ a.lines
  pub written : Written a b

-- one put into line k, and what follows it
pub record LinePut (then : Continuation) (k : ℕ) (x : Machine → LineEntry) (a b : Simulation) (e : LineEntry) (r : Result ℕ Refusal) : Type 0 where
  pub follows : Follows then Orders
  pub blind : (m : Machine) (c : Option ℕ) → x (with_cut m c) ≡ x m
  pub element : (t : Earlier) → x (machine_of t a) ≡ e
  pub inside : length a.lines.state.lists ≡ 32
  pub puts : Puts line_le a.lines k e r b.lines
  pub same : (t : Earlier) → machine_of t b ≡ then r (with_lines (machine_of t a) (store_of b.lines t.takes.lines))
  pub events : b.events ≡ a.events
  pub written : Written a b

pub record Composes : Type 0 where
  -- a row of calls may end at a refusal or a fault, or only at a stop
  pub ends_halted : Ends halted
  pub ends_stopped : Ends (λ m. is_some (stopped m))
  -- what follows then may be nothing, or that an order in hand is stranded
  pub tidy_as_is : Tidy as_is
  pub tidy_strand : (i : ℕ) → Tidy (strand i)
  -- one after the other, where the first did not end it
  pub then : (ends : Machine → Bool) (f g h : Machine → Machine) → Ends ends → Tidy h → (a b d : Simulation) → Outcome f a b → ((t : Earlier) → ends (machine_of t b) ≡ false) → Outcome g b d → Outcome (seq_by ends f g h) a d
  -- the first ended it, and h follows
  pub otherwise : (ends : Machine → Bool) (f g h : Machine → Machine) → Ends ends → Tidy h → (a b d : Simulation) → Outcome f a b → ((t : Earlier) → ends (machine_of t b) ≡ true) → Left h b d → Outcome (seq_by ends f g h) a d
  -- a part that puts nothing comes first
  pub onward : (f g : Machine → Machine) (a b d : Simulation) → Onward f g a b → Outcome g b d → Outcome f a d
  -- or is all
  pub quiet : (f : Machine → Machine) (a b : Simulation) → Onward f as_is a b → Outcome f a b
  pub event_put : (then : Continuation) (x : Machine → Event) (a b : Simulation) (e : Event) (r : Result ℕ Refusal) → EventPut then x a b e r → Outcome (put_event x then) a b
  pub line_put : (then : Continuation) (k : ℕ) (x : Machine → LineEntry) (a b : Simulation) (e : LineEntry) (r : Result ℕ Refusal) → LinePut then k x a b e r → Outcome (put_line k x then) a b

-- enough cells exclude a departure, whatever the call
abbrev pub EnoughSuffice : Type 0
EnoughSuffice = (f : Machine → Machine) (a b : Simulation) → Outcome f a b → Whole f a b

-- two calls that agree with the machine from one state leave one state, whatever the stores
abbrev pub Alike : Type 0
Alike = (f : Machine → Machine) (a b c d : Simulation) (t : Earlier) → Agreed f a b → Agreed f c d → machine_of t a ≡ machine_of t c → (x y : Takes) × (machine_of (and_takes t x) b ≡ machine_of (and_takes t y) d)
