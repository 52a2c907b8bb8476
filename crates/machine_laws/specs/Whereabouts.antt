-- Where the stores have an order.
use Rattle.std.specs.Prelude.{◌≡◌, ℕ, ◌<◌, Bool, cond, ◌&&◌, ◌==◌}
use Rattle.elements.specs.declared.events.Event.{Event}
use Rattle.elements.specs.declared.events.EventKind.{EventKind}
use Rattle.elements.specs.declared.events.EventKind.TheVariants.{Arrive, Finish, Withdraw, Close}
use Rattle.elements.specs.declared.lines.LineEntry.{LineEntry}
use Rattle.elements.specs.declared.entries.Entry.{Entry}
use Rattle.machine.specs.declared.networks.OrderState.{OrderState}
use Rattle.machine.specs.declared.networks.OrderState.TheVariants.{NotYet, Waiting, InService, Done, Away, Withdrawn, Stranded}
use Rattle.machine.specs.Machine.{Machine}
use Rattle.machine.specs.Network.{order}
use Rattle.machine_laws.specs.Entries.{total}
use Rattle.machine_laws.specs.Runs.{Always}

abbrev pub one : Bool → ℕ
one b = cond b 1 0

-- Tests of entries; q is the number of the queue.

-- the arrival of order i
abbrev pub arrives : ℕ → EventKind → ℕ
arrives i (Arrive j k) = one (j == i)
arrives i (Finish j k) = 0
arrives i (Withdraw j) = 0
arrives i (Close k j) = 0

abbrev pub arrival_of : ℕ → ℕ → Entry Event → ℕ
arrival_of i q e = arrives i e.element.kind

-- the finish of order i, at any station, and at station k with the stamp s
abbrev pub ends : ℕ → EventKind → ℕ
ends i (Arrive j k) = 0
ends i (Finish j k) = one (j == i)
ends i (Withdraw j) = 0
ends i (Close k j) = 0

abbrev pub finish_of : ℕ → ℕ → Entry Event → ℕ
finish_of i q e = ends i e.element.kind

abbrev pub ends_at : ℕ → ℕ → EventKind → ℕ
ends_at i k (Arrive j l) = 0
ends_at i k (Finish j l) = one (j == i && l == k)
ends_at i k (Withdraw j) = 0
ends_at i k (Close l j) = 0

abbrev pub finish_with : ℕ → ℕ → ℕ → ℕ → Entry Event → ℕ
finish_with i k s q e = cond (e.stamp == s) (ends_at i k e.element.kind) 0

-- order i in a line, and with the stamp s
abbrev pub wait_of : ℕ → ℕ → Entry LineEntry → ℕ
wait_of i q e = one (e.element.order == i)

abbrev pub wait_with : ℕ → ℕ → ℕ → Entry LineEntry → ℕ
wait_with i s q e = cond (e.stamp == s) (wait_of i q e) 0

-- so many arrivals, finishes and entries in lines are order i's
pub record Spot (m : Machine) (i : ℕ) (a f w : ℕ) : Type 0 where
  pub arrivals : total (arrival_of i) m.events.state ≡ a
  pub finishes : total (finish_of i) m.events.state ≡ f
  pub waits : total (wait_of i) m.lines.state ≡ w

-- an order that did not yet arrive has its arrival before it; one that waits has one entry in the lines, with its stamp;
-- one in service has one finish, of its station, with its stamp; and any other has nothing in the stores
abbrev pub AsStated : Machine → ℕ → OrderState → Type 0
AsStated m i NotYet = Spot m i 1 0 0
AsStated m i (Waiting s) = Spot m i 0 0 1 × (total (wait_with i s) m.lines.state ≡ 1)
AsStated m i (InService k s) = Spot m i 0 1 0 × (total (finish_with i k s) m.events.state ≡ 1)
AsStated m i Done = Spot m i 0 0 0
AsStated m i Away = Spot m i 0 0 0
AsStated m i Withdrawn = Spot m i 0 0 0
AsStated m i Stranded = Spot m i 0 0 0

-- every declared order is where its state says, also after a fault or a stop: so just the orders then in hand are stranded
abbrev pub OrdersLocated : Type 0
OrdersLocated = Always (λ m. (i : ℕ) → i < m.network.declared.orders → AsStated m i (order m.network i).state)
