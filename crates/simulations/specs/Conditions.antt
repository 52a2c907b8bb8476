-- What every call over a network and its two stores needs and keeps: whatever is named in them exists.
use Rattle.std.specs.Prelude.{◌≡◌, ℕ, ◌<◌, ◌≤◌, length, Some, None, Option}
use Rattle.std.specs.List.{AllByRecursion}
use Rattle.elements.specs.declared.events.Event.{Event}
use Rattle.elements.specs.declared.events.EventKind.{EventKind}
use Rattle.elements.specs.declared.events.EventKind.TheVariants.{Arrive, Finish, Withdraw, Close}
use Rattle.elements.specs.declared.lines.LineEntry.{LineEntry}
use Rattle.elements.specs.declared.entries.Entry.{Entry}
use Rattle.stores.specs.Meaning.{State}
use Rattle.machine.specs.declared.networks.Network.{Network}
use Rattle.machine.specs.declared.networks.Station.{Station}
use Rattle.machine.specs.declared.networks.Order.{Order}
use Rattle.machine.specs.declared.networks.OrderState.{OrderState}
use Rattle.machine.specs.declared.networks.OrderState.TheVariants.{NotYet, Waiting, InService, Done, Away, Withdrawn, Stranded}
use Rattle.outcomes.specs.Simulation.{Simulation}

abbrev pub IsStation : ℕ → Type 0
IsStation k = k < 32

abbrev pub IsOrder : ℕ → Type 0
IsOrder i = i < 1024

abbrev pub IsTick : ℕ → Type 0
IsTick t = t ≤ 1000000000

-- P holds of what is there
abbrev pub WhenSome : (ℕ → Type 0) → Option ℕ → Type 0
WhenSome P None = Unit {0}
WhenSome P (Some k) = P k

pub record StationFit (s : Station) : Type 0 where
  pub benches : s.benches ≤ 8
  pub busy : s.busy ≤ 8
  pub takes : s.takes ≤ 1000000
  pub next : WhenSome IsStation s.next
  pub into : WhenSome IsStation s.into

abbrev pub StateFit : OrderState → Type 0
StateFit NotYet = Unit {0}
StateFit (Waiting s) = Unit {0}
StateFit (InService k s) = IsStation k
StateFit Done = Unit {0}
StateFit Away = Unit {0}
StateFit Withdrawn = Unit {0}
StateFit Stranded = Unit {0}

abbrev pub OrderFit : Order → Type 0
OrderFit o = StateFit o.state

pub record NetworkFit (n : Network) : Type 0 where
  pub stations : length n.stations ≡ 32
  pub orders : length n.orders ≡ 1024
  pub each_station : AllByRecursion StationFit n.stations
  pub each_order : AllByRecursion OrderFit n.orders

abbrev pub KindFit : EventKind → Type 0
KindFit (Arrive i k) = IsOrder i × IsStation k
KindFit (Finish i k) = IsOrder i × IsStation k
KindFit (Withdraw i) = IsOrder i
KindFit (Close k j) = IsStation k × IsStation j

abbrev pub EventFit : Entry Event → Type 0
EventFit e = KindFit e.element.kind

abbrev pub LineFit : Entry LineEntry → Type 0
LineFit e = IsOrder e.element.order

-- 32 queues, and P holds of each entry in them
pub record Each {T : Type 0} (P : Entry T → Type 0) (s : State T) : Type 0 where
  pub queues : length s.lists ≡ 32
  pub entries : AllByRecursion (AllByRecursion P) s.lists

pub record Fit (s : Simulation) : Type 0 where
  pub network : NetworkFit s.control.network
  pub instant : IsTick s.control.instant
  pub end : WhenSome IsTick s.control.end
  pub events : Each EventFit s.events.state
  pub lines : Each LineFit s.lines.state
