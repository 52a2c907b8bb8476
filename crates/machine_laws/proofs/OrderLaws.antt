-- The laws of orders and records, over every list of calls.
use Rattle.std.proofs.Common.{◌≡◌, ℕ, ◌+◌, ◌<◌, ◌≤◌, true, false, cond, List, [], ◌∷◌, ◌++◌, length, Option, sym, refl, ap, ◌∙◌, subst, arith}
use Rattle.std.proofs.lemmas.List.{append_assoc, length-take-le}
use Rattle.std.proofs.lemmas.List.Sums.{sum_by-cons}
use Rattle.std.proofs.lemmas.Bool.{lt-ltb, eq-eqb}
use Rattle.std.proofs.lemmas.Bool.Decides.{nat_tests}
use Rattle.elements.specs.declared.events.EventKind.{EventKind}
use Rattle.elements.specs.declared.events.EventKind.TheVariants.{Arrive, Finish, Withdraw, Close}
use Rattle.elements.specs.declared.events.Event.{Event}
use Rattle.elements.specs.declared.entries.Entry.{Entry}
use Rattle.elements.specs.Elements.{line_le}
use Rattle.elements.specs.Order.{precedes_by}
use Rattle.machine.specs.declared.networks.Order.{Order}
use Rattle.machine.specs.declared.networks.OrderState.{OrderState}
use Rattle.machine.specs.declared.networks.OrderState.TheVariants.{NotYet, Waiting, InService, Done, Away, Withdrawn, Stranded}
use Rattle.machine.specs.declared.records.Record.{Record}
use Rattle.machine.specs.declared.records.Totals.{Totals}
use Rattle.machine.specs.Machine.{Bounds, Machine, start_machine}
use Rattle.machine.specs.Closing.{one_in, count_in, totals_of, declared_orders, totals, inside}
use Rattle.machine.specs.Calls.{Call}
use Rattle.machine_laws.specs.Runs.{after}
use Rattle.machine_laws.specs.Arrivals.{arrived, Accounted, ArrivedAccounted}
use Rattle.machine_laws.specs.History.{started, Unpreceded, FrontFirst, finishes, FinishedBetween}
use Rattle.machine_laws.specs.Whereabouts.{one, ends, finish_of, ends_at, finish_with, wait_of, wait_with, Spot, AsStated, OrdersLocated}
use Rattle.machine_laws.proofs.Totalling.{total_le}
use Rattle.machine_laws.proofs.Histories.{unfinished_from, unfinished, Good, good_at, finished_on, unfinished_append}
use Rattle.machine_laws.proofs.Orders.{wait_at, Fits}
use Rattle.machine_laws.proofs.OrderedCalls.{Reached}
use Rattle.machine_laws.proofs.OrderedRuns.{Led, calls_lead, first_reached}

-- of one machine that calls have reached

front_first_at : (n : ℕ) (m : Machine) → Reached n m → (xs ys : List Record) (t i k : ℕ) → m.records ≡ xs ++ (started t i k ∷ ys) → Unpreceded m.network xs i k
front_first_at n m h xs ys t i k p s j u q r =
    let a = (good_at h.who xs (started t i k) ys (subst (Good h.who) p h.base.good)).0 s j u q r in
    (λ d. precedes_by line_le (record { element = h.base.known j d; stamp = u }) (record { element = h.base.known i d; stamp = s })) ∙ a

finished_between_at : (n : ℕ) (m : Machine) → Reached n m → (xs ys zs : List Record) (t u i k l : ℕ) → m.records ≡ xs ++ (started t i k ∷ (ys ++ (started u i l ∷ zs))) → finishes i ys ≡ true
finished_between_at n m h xs ys zs t u i k l p =
    let e : m.records ≡ (xs ++ (started t i k ∷ ys)) ++ (started u i l ∷ zs) = p ∙ sym (append_assoc xs (started t i k ∷ ys) (started u i l ∷ zs)) in
    let a : unfinished i (xs ++ (started t i k ∷ ys)) ≡ false = (good_at h.who (xs ++ (started t i k ∷ ys)) (started u i l) zs (subst (Good h.who) e h.base.good)).1 in
    finished_on i ys (ap (λ b. unfinished_from i (cond b true (unfinished i xs)) ys) (sym (eq-eqb i i refl)) ∙ sym (unfinished_append i false xs (started t i k ∷ ys)) ∙ a)

ends_le : (i k : ℕ) (x : EventKind) → ends_at i k x ≤ ends i x
ends_le i k (Arrive j l) = omega arith
ends_le i k (Finish j l) = grind (arith, nat_tests)
ends_le i k (Withdraw j) = omega arith
ends_le i k (Close l j) = omega arith

with_le : (i k s q : ℕ) (e : Entry Event) → finish_with i k s q e ≤ finish_of i q e
with_le i k s q e = let h = ends_le i k e.element.kind in grind (arith, nat_tests, h)

located_by : (m : Machine) (i : ℕ) (st : OrderState) → i < m.network.declared.orders → Fits m i st → AsStated m i st
located_by m i NotYet lt f = subst (λ n. Spot m i n 0 0) (ap one (lt-ltb _ _ lt)) f.0
located_by m i (Waiting s) lt f =
    let k = f.1.0 in
    let least = total_le (wait_at i s k) (wait_with i s) (λ q e. grind (arith, nat_tests)) m.lines.state in
    let most = total_le (wait_with i s) (wait_of i) (λ q e. grind (arith, nat_tests)) m.lines.state in
    (f.0, omega (arith, least, most, f.1.3, f.0.waits))
located_by m i (InService k s) lt f = (f.0, omega (arith, total_le (finish_with i k s) (finish_of i) (with_le i k s) m.events.state, f.1.1, f.0.finishes))
located_by m i Done lt f = f.0
located_by m i Away lt f = f.0
located_by m i Withdrawn lt f = f.0
located_by m i Stranded lt f = f.0

-- each order is in one state
all_states : Totals → ℕ
all_states t = t.pending + t.done + t.away + t.withdrawn + inside t + t.stranded

one_state : (st : OrderState) → all_states (one_in st) ≡ 1
unfolding all_states
one_state NotYet = refl
one_state (Waiting s) = refl
one_state (InService k s) = refl
one_state Done = refl
one_state Away = refl
one_state Withdrawn = refl
one_state Stranded = refl

everyone : (os : List Order) → all_states (totals_of os) ≡ length os
unfolding all_states
everyone [] = refl
everyone (o ∷ os) = omega (arith, one_state o.state, everyone os, count (λ t. t.pending), count (λ t. t.waiting), count (λ t. t.serving), count (λ t. t.done), count (λ t. t.away), count (λ t. t.withdrawn), count (λ t. t.stranded))
  where
    count : (which : Totals → ℕ) → count_in which (o ∷ os) ≡ which (one_in o.state) + count_in which os
    count which = sum_by-cons (λ (x : Order). which (one_in x.state)) o os

accounted_at : (a n : ℕ) (m : Machine) → Reached n m → a + n ≡ m.network.declared.orders → Accounted a m.network.declared.orders (totals m.network)
unfolding all_states
accounted_at a n m h e =
    let all = everyone (declared_orders m.network) in
    let some = length-take-le m.network.declared.orders m.network.orders (omega (arith, h.base.few, h.base.size)) in
    let left : (totals m.network).pending ≡ n + 0 = h.orders.pending in
    record { arrived = omega (arith, all, some, left, e); declared = omega (arith, left, e) }

-- of every list of calls

led : (xs : List Call) (e l : Bounds) (c : Option ℕ) → Led xs 0 (start_machine e l c)
led xs e l c = calls_lead xs 0 (start_machine e l c) (first_reached e l c)

pub front_first : FrontFirst
front_first xs e l c = front_first_at _ (after xs e l c) (led xs e l c).reached

pub finished_between : FinishedBetween
finished_between xs e l c = finished_between_at _ (after xs e l c) (led xs e l c).reached

pub orders_located : OrdersLocated
orders_located xs e l c i lt = located_by (after xs e l c) i _ lt ((led xs e l c).reached.orders.fits i tt)

pub arrived_accounted : ArrivedAccounted
arrived_accounted xs e l c = let g = led xs e l c in accounted_at (arrived xs (start_machine e l c)) g.left (after xs e l c) g.reached (omega (arith, g.count))
