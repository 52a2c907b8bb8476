-- What holds of every order, in hand or not, at any moment of a step.
use Rattle.std.proofs.Common.{◌≡◌, ℕ, ◌+◌, ◌<◌, ◌≤◌, Bool, false, cond, eqb, ltb, List, [], ◌∷◌, length, Some, None, sum_by, sym, ◌∙◌, subst, arith}
use Rattle.std.specs.List.{AllByRecursion}
use Rattle.elements.specs.declared.events.Event.{Event}
use Rattle.elements.specs.declared.events.EventKind.{EventKind}
use Rattle.elements.specs.declared.events.EventKind.TheVariants.{Arrive, Finish, Withdraw, Close}
use Rattle.elements.specs.declared.lines.LineEntry.{LineEntry}
use Rattle.elements.specs.declared.entries.Entry.{Entry}
use Rattle.machine.specs.declared.networks.Order.{Order}
use Rattle.machine.specs.declared.networks.Network.{Network}
use Rattle.machine.specs.declared.networks.OrderState.{OrderState}
use Rattle.machine.specs.declared.networks.OrderState.TheVariants.{NotYet, Waiting, InService, Done, Away, Withdrawn, Stranded}
use Rattle.machine.specs.Network.{order, line_entry}
use Rattle.machine.specs.Machine.{Machine}
use Rattle.machine.specs.Closing.{one_in, declared_orders}
use Rattle.machine_laws.specs.Arrivals.{is_arrival}
use Rattle.machine_laws.specs.Entries.{total}
use Rattle.machine_laws.specs.History.{Place, place}
use Rattle.machine_laws.specs.Whereabouts.{one, arrival_of, finish_of, finish_with, wait_of, wait_with, Spot}
use Rattle.machine_laws.proofs.Histories.{waits, unfinished, Good}

-- order i in line k, with the stamp s
abbrev pub wait_at : ℕ → ℕ → ℕ → ℕ → Entry LineEntry → ℕ
wait_at i s k q e = cond (eqb q k) (wait_with i s q e) 0

-- any arrival
abbrev pub any_arrival : ℕ → Entry Event → ℕ
any_arrival q e = is_arrival e.element.kind

abbrev pub pending_in : OrderState → ℕ
pending_in st = (one_in st).pending

-- an order in hand, where the records still have it waiting, and whether they have it unfinished
pub record Hand : Type 0 where
  pub order : ℕ
  pub place : Place
  pub unfinished : Bool

abbrev pub Settled : Machine → ℕ → Type 0
Settled m i = (unfinished i m.records ≡ false) × (place i m.records ≡ None)

-- what stores and records have of an order that is not in hand
abbrev pub Fits : Machine → ℕ → OrderState → Type 0
Fits m i NotYet = Spot m i (one (ltb i m.network.declared.orders)) 0 0 × Settled m i
Fits m i (Waiting s) = Spot m i 0 0 1 × ((k : ℕ) × (unfinished i m.records ≡ false) × (place i m.records ≡ Some (k, s)) × (1 ≤ total (wait_at i s k) m.lines.state))
Fits m i (InService k s) = Spot m i 0 1 0 × ((place i m.records ≡ None) × (1 ≤ total (finish_with i k s) m.events.state))
Fits m i Done = Spot m i 0 0 0 × Settled m i
Fits m i Away = Spot m i 0 0 0 × Settled m i
Fits m i Withdrawn = Spot m i 0 0 0 × (place i m.records ≡ None)
Fits m i Stranded = Spot m i 0 0 0 × (m.fault ≡ None → ⊥)

pub record IsInHand (m : Machine) (x : Hand) : Type 0 where
  pub declared : x.order < m.network.declared.orders
  pub spot : Spot m x.order 0 0 0
  pub place : place x.order m.records ≡ x.place
  pub unfinished : unfinished x.order m.records ≡ x.unfinished

-- order i is none of those in hand
abbrev pub Out : List Hand → ℕ → Type 0
Out h i = AllByRecursion (λ (x : Hand). x.order ≡ i → ⊥) h

abbrev pub Apart : List Hand → Type 0
Apart [] = Unit {0}
Apart (x ∷ h) = Out h x.order × Apart h

-- how many of those in hand have a state that says they did not arrive
abbrev pub stale : Network → List Hand → ℕ
stale n [] = 0
stale n (x ∷ h) = pending_in (order n x.order).state + stale n h

abbrev pub pending : Network → ℕ
pending n = sum_by (λ (o : Order). pending_in o.state) (declared_orders n)

-- a closing names two of the 32 stations
abbrev pub Stations : EventKind → Type 0
Stations (Arrive j k) = Unit {0}
Stations (Finish j k) = Unit {0}
Stations (Withdraw j) = Unit {0}
Stations (Close k j) = (k < 32) × (j < 32)

abbrev pub Ranged : Entry Event → Type 0
Ranged e = Stations e.element.kind

-- n arrivals are left, `who` is each order as it stands in a line
pub record Base (who : ℕ → LineEntry) (n : ℕ) (m : Machine) : Type 0 where
  pub size : length m.network.orders ≡ 1024
  pub few : m.network.declared.orders ≤ 1024
  pub known : (i : ℕ) → line_entry m.network i ≡ who i
  pub written : AllByRecursion (AllByRecursion (λ (e : Entry LineEntry). e.element ≡ who e.element.order)) m.lines.state.lists
  pub stamped : waits m.records ≡ m.lines.state.next
  pub good : Good who m.records
  pub left : total any_arrival m.events.state ≡ n
  pub undeclared : (i : ℕ) → m.network.declared.orders ≤ i → (order m.network i).state ≡ NotYet
  pub ranged : AllByRecursion (AllByRecursion Ranged) m.events.state.lists

-- these orders are in hand, and every other is where its state says
pub record Orders (h : List Hand) (n : ℕ) (m : Machine) : Type 0 where
  pub pending : pending m.network ≡ n + stale m.network h
  pub hand : AllByRecursion (IsInHand m) h
  pub apart : Apart h
  pub fits : (i : ℕ) → Out h i → Fits m i (order m.network i).state

-- stores and records have the same of order i
pub record Same (m v : Machine) (i : ℕ) : Type 0 where
  pub arrivals : total (arrival_of i) v.events.state ≡ total (arrival_of i) m.events.state
  pub finishes : total (finish_of i) v.events.state ≡ total (finish_of i) m.events.state
  pub benches : (k s : ℕ) → total (finish_with i k s) v.events.state ≡ total (finish_with i k s) m.events.state
  pub waits : total (wait_of i) v.lines.state ≡ total (wait_of i) m.lines.state
  pub lines : (s k : ℕ) → total (wait_at i s k) v.lines.state ≡ total (wait_at i s k) m.lines.state
  pub place : place i v.records ≡ place i m.records
  pub unfinished : unfinished i v.records ≡ unfinished i m.records

pub spot_same : (m v : Machine) (i a f w : ℕ) → Same m v i → Spot m i a f w → Spot v i a f w
spot_same m v i a f w s p = record { arrivals = s.arrivals ∙ p.arrivals; finishes = s.finishes ∙ p.finishes; waits = s.waits ∙ p.waits }

pub settled_same : (m v : Machine) (i : ℕ) → Same m v i → Settled m i → Settled v i
settled_same m v i s p = (s.unfinished ∙ p.0, s.place ∙ p.1)

-- a fault stays
abbrev pub Stays : Machine → Machine → Type 0
Stays m v = (m.fault ≡ None → ⊥) → v.fault ≡ None → ⊥

pub fits_same : (m v : Machine) (i : ℕ) (st : OrderState) → v.network.declared.orders ≡ m.network.declared.orders → Stays m v → Same m v i → Fits m i st → Fits v i st
fits_same m v i NotYet d f s p = (subst (λ x. Spot v i (one (ltb i x)) 0 0) (sym d) (spot_same m v i _ 0 0 s p.0), settled_same m v i s p.1)
fits_same m v i (Waiting t) d f s p = (spot_same m v i 0 0 1 s p.0, (p.1.0, s.unfinished ∙ p.1.1, s.place ∙ p.1.2, omega (arith, p.1.3, s.lines t p.1.0)))
fits_same m v i (InService k t) d f s p = (spot_same m v i 0 1 0 s p.0, (s.place ∙ p.1.0, omega (arith, p.1.1, s.benches k t)))
fits_same m v i Done d f s p = (spot_same m v i 0 0 0 s p.0, settled_same m v i s p.1)
fits_same m v i Away d f s p = (spot_same m v i 0 0 0 s p.0, settled_same m v i s p.1)
fits_same m v i Withdrawn d f s p = (spot_same m v i 0 0 0 s p.0, s.place ∙ p.1)
fits_same m v i Stranded d f s p = (spot_same m v i 0 0 0 s p.0, f p.1)

pub hand_same : (m v : Machine) (x : Hand) → v.network.declared.orders ≡ m.network.declared.orders → Same m v x.order → IsInHand m x → IsInHand v x
hand_same m v x d s p = record {
  declared = subst (λ y. x.order < y) (sym d) p.declared;
  spot = spot_same m v x.order 0 0 0 s p.spot;
  place = s.place ∙ p.place;
  unfinished = s.unfinished ∙ p.unfinished;
}

pub hands_same : (m v : Machine) (i : ℕ) (h : List Hand) → v.network.declared.orders ≡ m.network.declared.orders → ((j : ℕ) → (j ≡ i → ⊥) → Same m v j) → Out h i → AllByRecursion (IsInHand m) h → AllByRecursion (IsInHand v) h
hands_same m v i [] d s o p = tt
hands_same m v i (x ∷ h) d s o p = (hand_same m v x d (s x.order o.0) p.0, hands_same m v i h d s o.1 p.1)
