-- Stations and orders in their arrays.
use Rattle.std.specs.Prelude.{ℕ, zero, suc, ◌+◌, ◌-◌, Bool, replicate, Some, None, Option, nat_lt, slice_index_or, slice_set}
use Rattle.elements.specs.declared.lines.LineEntry.{LineEntry}
use Rattle.machine.specs.declared.networks.Station.{Station}
use Rattle.machine.specs.declared.networks.Order.{Order}
use Rattle.machine.specs.declared.networks.Network.{Network}
use Rattle.machine.specs.declared.networks.OrderState.{OrderState}
use Rattle.machine.specs.declared.networks.OrderState.TheVariants.{NotYet}

abbrev pub no_station : Station
no_station = record { benches = 0; busy = 0; takes = 0; holds = 0; next = None; into = None }

abbrev pub no_order : Order
no_order = record { urgency = 0; due = 0; start = 0; state = NotYet }

-- no station and no order is declared
abbrev pub cleared : Network
cleared = record { stations = replicate 32 no_station; orders = replicate 1024 no_order; declared = record { stations = 0; orders = 0 } }

abbrev pub station : Network → ℕ → Station
station n k = slice_index_or n.stations k no_station

abbrev pub order : Network → ℕ → Order
order n i = slice_index_or n.orders i no_order

abbrev pub with_station : Network → ℕ → Station → Network
with_station n k s = record { stations = slice_set n.stations k s; orders = n.orders; declared = n.declared }

abbrev pub with_order : Network → ℕ → Order → Network
with_order n i o = record { stations = n.stations; orders = slice_set n.orders i o; declared = n.declared }

-- station k is declared, being the next one: benches free, not closed
abbrev pub with_new_station : Network → ℕ → Station → Network
with_new_station n k s = record { stations = slice_set n.stations k s; orders = n.orders; declared = record { stations = n.declared.stations + 1; orders = n.declared.orders } }

-- order i is declared, being the next one
abbrev pub with_new_order : Network → ℕ → Order → Network
with_new_order n i o = record { stations = n.stations; orders = slice_set n.orders i o; declared = record { stations = n.declared.stations; orders = n.declared.orders + 1 } }

abbrev pub with_state : Order → OrderState → Order
with_state o st = record { urgency = o.urgency; due = o.due; start = o.start; state = st }

abbrev pub with_busy : Station → ℕ → Station
with_busy s b = record { benches = s.benches; busy = b; takes = s.takes; holds = s.holds; next = s.next; into = s.into }

abbrev pub with_into : Station → ℕ → Station
with_into s m = record { benches = s.benches; busy = s.busy; takes = s.takes; holds = s.holds; next = s.next; into = Some m }

-- order i is in that state
abbrev pub marked : ℕ → OrderState → Network → Network
marked i st n = with_order n i (with_state (order n i) st)

-- one bench more of station k is busy
abbrev pub occupied : ℕ → Network → Network
occupied k n = with_station n k (with_busy (station n k) ((station n k).busy + 1))

-- one bench of station k becomes free
abbrev pub freed : ℕ → Network → Network
freed k n = with_station n k (with_busy (station n k) ((station n k).busy - 1))

-- station k is closed into station m
abbrev pub closed : ℕ → ℕ → Network → Network
closed k m n = with_station n k (with_into (station n k) m)

abbrev pub has_free : Network → ℕ → Bool
has_free n k = nat_lt (station n k).busy (station n k).benches

-- the station that is reached from k by following so many closings, or fewer where an open one is met
abbrev pub follow_by : Option ℕ → (ℕ → ℕ) → ℕ → ℕ
follow_by None on k = k
follow_by (Some m) on k = on m

abbrev pub follow : ℕ → Network → ℕ → ℕ
follow zero n k = k
follow (suc fuel) n k = follow_by (station n k).into (follow fuel n) k

-- each of the 32 stations is met at most once
abbrev pub open_station : Network → ℕ → ℕ
open_station n k = follow 32 n k

-- order i as it stands in a line
abbrev pub line_entry : Network → ℕ → LineEntry
line_entry n i = record { order = i; urgency = (order n i).urgency; due = (order n i).due }
