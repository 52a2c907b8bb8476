-- The forms: when one is refused, and what an accepted one does.
use Rattle.std.specs.Prelude.{ℕ, Bool, true, false, not, ◌&&◌, List, [], ◌∷◌, take, Some, None, Ok, Err, Option, ◌==◌, nat_le, nat_lt}
use Rattle.elements.specs.declared.events.Event.{Event}
use Rattle.elements.specs.declared.events.EventKind.{EventKind}
use Rattle.elements.specs.declared.events.EventKind.TheVariants.{Arrive, Withdraw as Withdrawing, Close as Closing}
use Rattle.stores.specs.Refusals.{number_of}
use Rattle.machine.specs.declared.networks.Station.{Station}
use Rattle.machine.specs.declared.networks.Order.{Order}
use Rattle.machine.specs.declared.networks.Network.{Network}
use Rattle.machine.specs.declared.networks.OrderState.TheVariants.{NotYet}
use Rattle.machine.specs.declared.forms.Form.{Form}
use Rattle.machine.specs.declared.forms.Form.TheVariants.{Station as a-station, Order as an-order, Withdraw, Close, End}
use Rattle.machine.specs.declared.forms.FormRefusal.{FormRefusal}
use Rattle.machine.specs.declared.forms.FormRefusal.TheVariants.{OutOfRange, OutOfPlace, Undeclared, Store as store-refused}
use Rattle.machine.specs.declared.forms.ScriptRefusal.TheVariants.{Form as form-refused}
use Rattle.machine.specs.Network.{with_new_station, with_new_order}
use Rattle.machine.specs.Machine.{Machine, with_end, with_network, with_refusal, refuse, is_some}
use Rattle.machine.specs.Puts.{Continuation, put_event}

-- the number of each refusal
abbrev pub form_number : FormRefusal → ℕ
form_number OutOfRange = 5
form_number OutOfPlace = 6
form_number Undeclared = 7
form_number (store-refused f) = number_of f

-- Refusal 5: a number is out of its range.

abbrev pub station_number : ℕ → Bool
station_number k = nat_le k 31

abbrev pub order_number : ℕ → Bool
order_number i = nat_le i 1023

abbrev pub tick : ℕ → Bool
tick t = nat_le t 1000000000

abbrev pub next_number : Option ℕ → Bool
next_number None = true
next_number (Some k) = station_number k

abbrev pub in_range : Form → Bool
in_range (a-station k b d w n) = station_number k && (nat_le 1 b && (nat_le b 8 && (nat_le 1 d && (nat_le d 1000000 && (nat_le w 4096 && next_number n)))))
in_range (an-order i t u v k) = order_number i && (tick t && (nat_le u 9 && (tick v && station_number k)))
in_range (Withdraw i t) = order_number i && tick t
in_range (Close k t j) = station_number k && (tick t && station_number j)
in_range (End t) = tick t

-- Refusal 6: stations come first, numbered 0, 1, 2 and on, at least one; then the rest, orders numbered likewise; a
-- withdrawal names a declared order; nothing comes after the end.

abbrev pub some_station : Network → Bool
some_station n = nat_lt 0 n.declared.stations

-- every form but a station's and the end puts an event, so while none was put only stations were declared
abbrev pub stations_only : Machine → Bool
stations_only m = m.events.state.next == 0

abbrev pub form_in_place : Form → Machine → Bool
form_in_place (a-station k b d w n) m = stations_only m && k == m.network.declared.stations
form_in_place (an-order i t u v k) m = some_station m.network && i == m.network.declared.orders
form_in_place (Withdraw i t) m = nat_lt i m.network.declared.orders
form_in_place (Close k t j) m = some_station m.network
form_in_place (End t) m = some_station m.network

abbrev pub in_place : Form → Machine → Bool
in_place f m = not (is_some m.end) && form_in_place f m

-- Refusal 7: a named station was not declared; a next station is looked at when the end comes.

abbrev pub declared : Network → ℕ → Bool
declared n k = nat_lt k n.declared.stations

abbrev pub next_declared : Network → Option ℕ → Bool
next_declared n None = true
next_declared n (Some k) = declared n k

abbrev pub all_next : Network → List Station → Bool
all_next n [] = true
all_next n (s ∷ ss) = next_declared n s.next && all_next n ss

abbrev pub names_declared : Form → Network → Bool
names_declared (a-station k b d w next) n = true
names_declared (an-order i t u v k) n = declared n k
names_declared (Withdraw i t) n = true
names_declared (Close k t j) n = declared n k && declared n j
names_declared (End t) n = all_next n (take n.declared.stations n.stations)

-- the lowest number that applies
abbrev pub checked : Bool → Bool → Bool → Option FormRefusal
checked false p d = Some OutOfRange
checked true false d = Some OutOfPlace
checked true true false = Some Undeclared
checked true true true = None

abbrev pub form_refusal : Form → Machine → Option FormRefusal
form_refusal f m = checked (in_range f) (in_place f m) (names_declared f m.network)

-- An order, a withdrawal and a closing put one event each. A refused form leaves all as it was.

abbrev pub event_at : ℕ → EventKind → Machine → Event
event_at t x m = record { time = t; kind = x }

abbrev pub announced : Continuation
announced (Ok n) m = m
announced (Err f) m = refuse (form-refused (store-refused f)) m

abbrev pub new_station : ℕ → ℕ → ℕ → Option ℕ → Station
new_station b d w n = record { benches = b; busy = 0; takes = d; holds = w; next = n; into = None }

abbrev pub new_order : ℕ → ℕ → ℕ → Order
new_order u v k = record { urgency = u; due = v; start = k; state = NotYet }

abbrev pub ordered : ℕ → Order → Continuation
ordered i o (Ok n) m = with_network m (with_new_order m.network i o)
ordered i o (Err f) m = refuse (form-refused (store-refused f)) m

abbrev pub accept : Form → Machine → Machine
accept (a-station k b d w n) m = with_network m (with_new_station m.network k (new_station b d w n))
accept (an-order i t u v k) m = put_event (event_at t (Arrive i k)) (ordered i (new_order u v k)) m
accept (Withdraw i t) m = put_event (event_at t (Withdrawing i)) announced m
accept (Close k t j) m = put_event (event_at t (Closing k j)) announced m
accept (End t) m = with_end m t

abbrev pub form_by : Option FormRefusal → Form → Machine → Machine
form_by None f m = accept f m
form_by (Some r) f m = refuse (form-refused r) m

abbrev pub form : Form → Machine → Machine
form f m = form_by (form_refusal f m) f (with_refusal m None)
