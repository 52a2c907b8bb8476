-- Orders are taken in hand: as they arrive, finish, or leave a line.
use Rattle.std.proofs.Common.{◌≡◌, ℕ, ◌+◌, ◌<◌, ◌≤◌, true, false, cond, eqb, ltb, ◌⊎◌, List, [], ◌∷◌, length, get_or, take, Some, None, Ok, sum_by, sym, refl, ap, ◌∙◌, subst, inl, inr, arith}
use Rattle.std.specs.List.{AllByRecursion}
use Rattle.std.proofs.ByRecursion.{All-set}
use Rattle.std.proofs.lemmas.Bool.{cases_lt, eq-eqb}
use Rattle.std.proofs.lemmas.Bool.Decides.{nat_tests}
use Rattle.elements.specs.declared.events.Event.{Event}
use Rattle.elements.specs.declared.events.EventKind.TheVariants.{Arrive, Finish as Finishing}
use Rattle.elements.specs.declared.lines.LineEntry.{LineEntry}
use Rattle.elements.specs.declared.entries.Entry.{Entry}
use Rattle.stores.specs.Meaning.{list_of}
use Rattle.stores.specs.Calls.{take_after, rest}
use Rattle.machine.specs.declared.networks.Order.{Order}
use Rattle.machine.specs.declared.networks.OrderState.{OrderState}
use Rattle.machine.specs.declared.networks.OrderState.TheVariants.{NotYet, Waiting, InService, Done as is-done, Away as is-away, Withdrawn as is-withdrawn, Stranded}
use Rattle.machine.specs.declared.records.RecordKind.TheVariants.{Finish}
use Rattle.machine.specs.Network.{no_order, order}
use Rattle.machine.specs.Machine.{Machine, with_instant, with_events, less_one, tell}
use Rattle.machine.specs.Step.{next_event, take_event}
use Rattle.machine_laws.specs.Arrivals.{is_arrival}
use Rattle.machine_laws.specs.Entries.{total}
use Rattle.machine_laws.specs.Whereabouts.{one, arrives, arrival_of, ends, finish_of, wait_of, Spot}
use Rattle.machine_laws.proofs.Elements.{all_get}
use Rattle.machine_laws.proofs.Histories.{waits, waits_push, place_push, unfinished, unfinished_push, Good, good_push}
use Rattle.machine_laws.proofs.Orders.{any_arrival, pending_in, Hand, IsInHand, Out, stale, Fits, Ranged, Base, Orders, Same, Stays, fits_same, hand_same}
use Rattle.machine_laws.proofs.Hands.{hold}
use Rattle.machine_laws.proofs.Unchanged.{same_by, events_kept, lines_kept, told_kept, Foreign, foreign_finish, foreign_arrival, event_left, front_leaves, told_silent, finish_silent}
use Rattle.machine_laws.proofs.Spending.{Written}

-- no order changes: the same is known of each, and the faults stay
module _ (h : List Hand) (n : ℕ) (m v : Machine) (os : v.network.orders ≡ m.network.orders) (d : v.network.declared.orders ≡ m.network.declared.orders) where
  stale_kept : (g : List Hand) → stale v.network g ≡ stale m.network g
  stale_kept [] = refl
  stale_kept (x ∷ g) = λ j. pending_in (get_or (os j) x.order no_order).state + stale_kept g j

  hands_kept : (g : List Hand) → ((j : ℕ) → Same m v j) → AllByRecursion (IsInHand m) g → AllByRecursion (IsInHand v) g
  hands_kept [] s p = tt
  hands_kept (x ∷ g) s p = (hand_same m v x d (s x.order) p.0, hands_kept g s p.1)

  pub carry : Stays m v → ((j : ℕ) → Same m v j) → Orders h n m → Orders h n v
  carry f s o = record {
    pending = (λ j. sum_by (λ (x : Order). pending_in x.state) (take (d j) (os j))) ∙ o.pending ∙ ap (λ y. n + y) (sym (stale_kept h));
    hand = hands_kept h s o.hand;
    apart = o.apart;
    fits = λ j q. subst (λ xs. Fits v j (get_or xs j no_order).state) (sym os) (fits_same m v j (order m.network j).state d f (s j) (o.fits j q));
  }

  pub base_kept : (who : ℕ → LineEntry) (p : ℕ) → Base who n m → AllByRecursion (AllByRecursion (Written who)) v.lines.state.lists → waits v.records ≡ v.lines.state.next → Good who v.records → total any_arrival v.events.state ≡ p → AllByRecursion (AllByRecursion Ranged) v.events.state.lists → Base who p v
  base_kept who p b w s g l z = record {
    size = ap length os ∙ b.size;
    few = subst (λ x. x ≤ 1024) (sym d) b.few;
    known = λ j. ap (λ xs. record { order = j; urgency = (get_or xs j no_order).urgency; due = (get_or xs j no_order).due }) os ∙ b.known j;
    written = w;
    stamped = s;
    good = g;
    left = l;
    undeclared = λ j q. ap (λ xs. (get_or xs j no_order).state) os ∙ b.undeclared j (subst (λ x. x ≤ j) d q);
    ranged = z;
  }

same_number : (i : ℕ) → eqb i i ≡ true
same_number i = eq-eqb i i refl

pub all_rest : {A : Type 0} (P : Entry A → Type 0) (xs : List (Entry A)) → AllByRecursion P xs → AllByRecursion P (rest xs)
all_rest P [] h = tt
all_rest P (x ∷ xs) h = h.1

-- who has something in a store is not in hand
pub out_by : (m : Machine) (i : ℕ) (h : List Hand) → AllByRecursion (IsInHand m) h → (Spot m i 0 0 0 → ⊥) → Out h i
out_by m i [] p q = tt
out_by m i (x ∷ h) p q = ((λ e. q (subst (λ j. Spot m j 0 0 0) e p.0.spot)), out_by m i h p.1 q)

-- the front event e is taken, and its time is the instant
abbrev pub taken : Entry Event → Machine → Machine
taken e m = with_instant (with_events m (less_one m.events (take_after m.events.state 0 (Ok (Some e))))) e.element.time

pub taken_is : (m : Machine) (e : Entry Event) → next_event m ≡ Some e → with_instant (take_event m) e.element.time ≡ taken e m
taken_is m e p = λ j. with_instant (with_events m (less_one m.events (take_after m.events.state 0 (Ok (p j))))) e.element.time

arrived_by : (st : OrderState) (m : Machine) (i : ℕ) → Fits m i st → 1 ≤ total (arrival_of i) m.events.state → (st ≡ NotYet) × Fits m i NotYet
arrived_by NotYet m i f h = (refl, f)
arrived_by (Waiting s) m i f h = absurd (omega (arith, h, f.0.arrivals))
arrived_by (InService k s) m i f h = absurd (omega (arith, h, f.0.arrivals))
arrived_by is-done m i f h = absurd (omega (arith, h, f.0.arrivals))
arrived_by is-away m i f h = absurd (omega (arith, h, f.0.arrivals))
arrived_by is-withdrawn m i f h = absurd (omega (arith, h, f.0.arrivals))
arrived_by Stranded m i f h = absurd (omega (arith, h, f.0.arrivals))

-- a finish is that of an order in service
pub record Serving (m : Machine) (i : ℕ) (st : OrderState) : Type 0 where
  pub station : ℕ
  pub stamp : ℕ
  pub is : st ≡ InService station stamp
  pub fits : Fits m i (InService station stamp)

pub serving_by : (st : OrderState) (m : Machine) (i : ℕ) → Fits m i st → 1 ≤ total (finish_of i) m.events.state → Serving m i st
serving_by NotYet m i f h = absurd (omega (arith, h, f.0.finishes))
serving_by (Waiting s) m i f h = absurd (omega (arith, h, f.0.finishes))
serving_by (InService k s) m i f h = record { station = k; stamp = s; is = refl; fits = f }
serving_by is-done m i f h = absurd (omega (arith, h, f.0.finishes))
serving_by is-away m i f h = absurd (omega (arith, h, f.0.finishes))
serving_by is-withdrawn m i f h = absurd (omega (arith, h, f.0.finishes))
serving_by Stranded m i f h = absurd (omega (arith, h, f.0.finishes))

-- an entry in a line is that of an order that waits
pub record Queued (m : Machine) (i : ℕ) (st : OrderState) : Type 0 where
  pub stamp : ℕ
  pub is : st ≡ Waiting stamp
  pub fits : Fits m i (Waiting stamp)

pub queued_by : (st : OrderState) (m : Machine) (i : ℕ) → Fits m i st → 1 ≤ total (wait_of i) m.lines.state → Queued m i st
queued_by NotYet m i f h = absurd (omega (arith, h, f.0.waits))
queued_by (Waiting s) m i f h = record { stamp = s; is = refl; fits = f }
queued_by (InService k s) m i f h = absurd (omega (arith, h, f.0.waits))
queued_by is-done m i f h = absurd (omega (arith, h, f.0.waits))
queued_by is-away m i f h = absurd (omega (arith, h, f.0.waits))
queued_by is-withdrawn m i f h = absurd (omega (arith, h, f.0.waits))
queued_by Stranded m i f h = absurd (omega (arith, h, f.0.waits))

-- an order whose state is not that of an undeclared one is declared
pub is_declared : (who : ℕ → LineEntry) (n : ℕ) (m : Machine) (i : ℕ) → Base who n m → pending_in (order m.network i).state ≡ 0 → i < m.network.declared.orders
is_declared who n m i b z = go (cases_lt i m.network.declared.orders)
  where
    go : (i < m.network.declared.orders) ⊎ (m.network.declared.orders ≤ i) → i < m.network.declared.orders
    go (inl lt) = lt
    go (inr le) = absurd (let y : ◌≡◌ {A = ℕ} 1 0 = sym (ap pending_in (b.undeclared i le)) ∙ z in omega arith)

module _ (who : ℕ → LineEntry) (n : ℕ) (m : Machine) (b : Base who n m) (o : Orders [] n m) (e : Entry Event) (p : next_event m ≡ Some e) where
  takes : (f : ℕ → Entry Event → ℕ) → total f (taken e m).events.state + f 0 e ≡ total f m.events.state
  takes f = (front_leaves m.events.state 0 e p).total f

  abbrev ranged_rest : AllByRecursion (AllByRecursion Ranged) (taken e m).events.state.lists
  ranged_rest = All-set (AllByRecursion Ranged) m.events.state.lists 0 _ (all_rest Ranged (list_of m.events.state 0) (all_get (AllByRecursion Ranged) m.events.state.lists 0 [] b.ranged tt)) b.ranged

  taken_base : (q : ℕ) → total any_arrival (taken e m).events.state ≡ q → Base who q (taken e m)
  taken_base q l = base_kept [] n m (taken e m) refl refl who q b b.written b.stamped b.good l ranged_rest

  taken_same : (j : ℕ) → Foreign j e.element.kind → Same m (taken e m) j
  taken_same j f = same_by m (taken e m) j (event_left m.events.state (taken e m).events.state e.stamp j (front_leaves m.events.state 0 e p) f) (lines_kept m.lines.state j) (told_kept m.records j)

  -- order i arrives
  module _ (i k : ℕ) (is : e.element.kind ≡ Arrive i k) where
    arrival : 1 ≤ total (arrival_of i) m.events.state
    arrival = omega (arith, takes (arrival_of i), ap (arrives i) is, ap one (same_number i))

    was : ((order m.network i).state ≡ NotYet) × Fits m i NotYet
    was = arrived_by (order m.network i).state m i (o.fits i tt) arrival

    few : one (ltb i m.network.declared.orders) ≤ 1
    few = grind (arith, nat_tests)

    pub arrived_base : Base who (total any_arrival (taken e m).events.state) (taken e m)
    arrived_base = taken_base _ refl

    pub arrived_orders : Orders (record { order = i; place = None; unfinished = false } ∷ []) (total any_arrival (taken e m).events.state) (taken e m)
    arrived_orders =
        let f = was.1 in
        hold _ [] n _ m (taken e m) tt o refl (sym (omega (arith, takes any_arrival, ap is_arrival is, b.left, ap pending_in was.0))) (λ x y. x y)
        (λ j ne. taken_same j (subst (Foreign j) (sym is) (foreign_arrival i k j ne)))
        (record {
          declared = grind (arith, nat_tests, f.0.arrivals, arrival);
          spot = record { arrivals = omega (arith, takes (arrival_of i), ap (arrives i) is, ap one (same_number i), f.0.arrivals, few); finishes = omega (arith, takes (finish_of i), ap (ends i) is, f.0.finishes); waits = f.0.waits };
          place = f.1.1;
          unfinished = f.1.0;
        })

  -- order i finishes: the record tells it
  module _ (i k : ℕ) (is : e.element.kind ≡ Finishing i k) where
    finish : 1 ≤ total (finish_of i) m.events.state
    finish = omega (arith, takes (finish_of i), ap (ends i) is, ap one (same_number i))

    served : Serving m i (order m.network i).state
    served = serving_by (order m.network i).state m i (o.fits i tt) finish

    left_same : total any_arrival (taken e m).events.state ≡ n
    left_same = omega (arith, takes any_arrival, ap is_arrival is, b.left)

    in_hand : Orders (record { order = i; place = None; unfinished = unfinished i m.records } ∷ []) n (taken e m)
    in_hand =
        let f = served.fits in
        hold _ [] n n m (taken e m) tt o refl (omega (arith, ap pending_in served.is)) (λ x y. x y)
        (λ j ne. taken_same j (subst (Foreign j) (sym is) (foreign_finish i k j ne)))
        (record {
          declared = is_declared who n m i b (ap pending_in served.is);
          spot = record { arrivals = omega (arith, takes (arrival_of i), ap (arrives i) is, f.0.arrivals); finishes = omega (arith, takes (finish_of i), ap (ends i) is, ap one (same_number i), f.0.finishes); waits = f.0.waits };
          place = f.1.0;
          unfinished = refl;
        })

    abbrev told_finish : Machine
    told_finish = tell (Finish i k) (taken e m)

    pub finished_base : Base who n told_finish
    finished_base = base_kept [] n (taken e m) told_finish refl refl who n (taken_base n left_same) b.written (waits_push m.records _ ∙ omega (arith, b.stamped)) (good_push who m.records _ b.good tt) left_same ranged_rest

    pub finished_orders : Orders (record { order = i; place = None; unfinished = false } ∷ []) n told_finish
    finished_orders =
        let g = in_hand in
        let told : (j : ℕ) → (j ≡ i → ⊥) → Same (taken e m) told_finish j = λ j ne. same_by (taken e m) told_finish j (events_kept _ j) (lines_kept _ j) (told_silent m.records _ j (finish_silent i k j ne)) in
        record {
          pending = g.pending;
          hand = (
            record {
              declared = g.hand.0.declared;
              spot = record { arrivals = g.hand.0.spot.arrivals; finishes = g.hand.0.spot.finishes; waits = g.hand.0.spot.waits };
              place = place_push i m.records _ ∙ g.hand.0.place;
              unfinished = unfinished_push i m.records _ ∙ ap (λ t. cond t false (unfinished i m.records)) (same_number i);
            },
            tt,
          );
          apart = (tt, tt);
          fits = λ j q. fits_same (taken e m) told_finish j (order m.network j).state refl (λ x y. x y) (told j (λ y. q.0 (sym y))) (g.fits j q);
        }

  -- an event of no order's arrival or finish
  module _ (none : is_arrival e.element.kind ≡ 0) (foreign : (j : ℕ) → Foreign j e.element.kind) where
    pub other_base : Base who n (taken e m)
    other_base = taken_base n (omega (arith, takes any_arrival, none, b.left))

    pub other_orders : Orders [] n (taken e m)
    other_orders = carry [] n m (taken e m) refl refl (λ x y. x y) (λ j. taken_same j (foreign j)) o
