-- The declared orders by state.
use Rattle.std.specs.Prelude.{ℕ, ◌+◌, List, take, sum_by}
use Rattle.machine.specs.declared.networks.Order.{Order}
use Rattle.machine.specs.declared.networks.Network.{Network}
use Rattle.machine.specs.declared.networks.OrderState.{OrderState}
use Rattle.machine.specs.declared.networks.OrderState.TheVariants.{NotYet, Waiting, InService, Done, Away, Withdrawn, Stranded}
use Rattle.machine.specs.declared.records.Totals.{Totals}

-- one order in that state
abbrev pub one_in : OrderState → Totals
one_in NotYet = record { pending = 1; waiting = 0; serving = 0; done = 0; away = 0; withdrawn = 0; stranded = 0 }
one_in (Waiting s) = record { pending = 0; waiting = 1; serving = 0; done = 0; away = 0; withdrawn = 0; stranded = 0 }
one_in (InService k s) = record { pending = 0; waiting = 0; serving = 1; done = 0; away = 0; withdrawn = 0; stranded = 0 }
one_in Done = record { pending = 0; waiting = 0; serving = 0; done = 1; away = 0; withdrawn = 0; stranded = 0 }
one_in Away = record { pending = 0; waiting = 0; serving = 0; done = 0; away = 1; withdrawn = 0; stranded = 0 }
one_in Withdrawn = record { pending = 0; waiting = 0; serving = 0; done = 0; away = 0; withdrawn = 1; stranded = 0 }
one_in Stranded = record { pending = 0; waiting = 0; serving = 0; done = 0; away = 0; withdrawn = 0; stranded = 1 }

abbrev pub count_in : (Totals → ℕ) → List Order → ℕ
count_in which os = sum_by (λ (o : Order). which (one_in o.state)) os

abbrev pub totals_of : List Order → Totals
totals_of os = record {
  pending = count_in (λ t. t.pending) os;
  waiting = count_in (λ t. t.waiting) os;
  serving = count_in (λ t. t.serving) os;
  done = count_in (λ t. t.done) os;
  away = count_in (λ t. t.away) os;
  withdrawn = count_in (λ t. t.withdrawn) os;
  stranded = count_in (λ t. t.stranded) os;
}

abbrev pub declared_orders : Network → List Order
declared_orders n = take n.declared.orders n.orders

abbrev pub totals : Network → Totals
totals n = totals_of (declared_orders n)

-- inside: waiting or in service
abbrev pub inside : Totals → ℕ
inside t = t.waiting + t.serving
