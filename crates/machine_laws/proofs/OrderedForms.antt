-- Every form keeps what holds of the orders.
use Rattle.std.proofs.Common.{◌≡◌, ℕ, zero, suc, ◌+◌, ◌<◌, ◌≤◌, eqb, ltb, ◌⊎◌, [], ◌∷◌, ◌++◌, length, take, set, replicate, Ok, sum_by, Option, sym, refl, ap, ◌∙◌, subst, inl, inr, arith}
use Rattle.std.specs.List.{AllByRecursion}
use Rattle.std.proofs.ByRecursion.{All-set}
use Rattle.std.proofs.lemmas.List.{length-set, get_or-set_same, get_or-set_other, take_more_set}
use Rattle.std.proofs.lemmas.List.Sums.{sum_by_push}
use Rattle.std.proofs.lemmas.Bool.{cases_eq}
use Rattle.std.proofs.lemmas.Bool.Decides.{nat_tests}
use Rattle.elements.specs.declared.events.Event.{Event}
use Rattle.elements.specs.declared.events.EventKind.TheVariants.{Arrive}
use Rattle.elements.specs.declared.lines.LineEntry.{LineEntry}
use Rattle.elements.specs.declared.entries.Entry.{Entry}
use Rattle.elements.specs.Elements.{event_le}
use Rattle.elements.specs.Order.{precedes_by}
use Rattle.stores.specs.Meaning.{State, list_of, fresh}
use Rattle.stores.specs.Calls.{put_after}
use Rattle.machine.specs.declared.networks.Order.{Order}
use Rattle.machine.specs.declared.networks.OrderState.{OrderState}
use Rattle.machine.specs.declared.networks.OrderState.TheVariants.{NotYet, Waiting, InService, Done, Away, Withdrawn, Stranded}
use Rattle.machine.specs.Network.{no_order, order, with_new_order, line_entry}
use Rattle.machine.specs.Machine.{Machine, listed, with_cut, with_events, with_network}
use Rattle.machine.specs.Forms.{new_order}
use Rattle.machine_laws.specs.Arrivals.{is_arrival}
use Rattle.machine_laws.specs.Entries.{total}
use Rattle.machine_laws.specs.Whereabouts.{one, arrives, arrival_of, ends, finish_of, Spot}
use Rattle.machine_laws.proofs.Elements.{all_get, all_insert}
use Rattle.machine_laws.proofs.Totalling.{total_put}
use Rattle.machine_laws.proofs.Histories.{Good}
use Rattle.machine_laws.proofs.Orders.{any_arrival, pending_in, Fits, Stations, Ranged, Base, Orders, Same, spot_same, settled_same}
use Rattle.machine_laws.proofs.Unchanged.{same_by, lines_kept, told_kept, Foreign, foreign_arrival, event_put}
use Rattle.machine_laws.proofs.Spending.{Written}
use Rattle.machine_laws.proofs.Holding.{carry, base_kept}

-- an event is put, with the next stamp
abbrev pub with_event : Event → Option ℕ → Machine → Machine
with_event x c m = with_cut (with_events m (listed m.events (put_after event_le m.events.state 0 x (Ok m.events.state.next)))) c

module _ (who : ℕ → LineEntry) (n : ℕ) (m : Machine) (x : Event) (c : Option ℕ) (inside : 0 < length m.events.state.lists) (b : Base who n m) (o : Orders [] n m) (fine : Stations x.kind) where
  puts : (f : ℕ → Entry Event → ℕ) → total f (with_event x c m).events.state ≡ total f m.events.state + f 0 (record { element = x; stamp = m.events.state.next })
  puts f = total_put f event_le m.events.state 0 x m.events.state.next inside

  ranged_more : AllByRecursion (AllByRecursion Ranged) (with_event x c m).events.state.lists
  ranged_more = All-set (AllByRecursion Ranged) m.events.state.lists 0 _ (all_insert Ranged (precedes_by event_le) _ (list_of m.events.state 0) fine (all_get (AllByRecursion Ranged) m.events.state.lists 0 [] b.ranged tt)) b.ranged

  put_same : (j : ℕ) → Foreign j x.kind → Same m (with_event x c m) j
  put_same j f = same_by m (with_event x c m) j (event_put m.events.state x m.events.state.next j inside f) (lines_kept m.lines.state j) (told_kept m.records j)

  -- a withdrawal or a closing
  module _ (none : is_arrival x.kind ≡ 0) (foreign : (j : ℕ) → Foreign j x.kind) where
    pub put_base : Base who n (with_event x c m)
    put_base = base_kept [] n m (with_event x c m) refl refl who n b b.written b.stamped b.good (puts any_arrival ∙ omega (arith, none, b.left)) ranged_more

    pub put_orders : Orders [] n (with_event x c m)
    put_orders = carry [] n m (with_event x c m) refl refl (λ f q. f q) (λ j. put_same j (foreign j)) o

  -- order i, the next one, and its arrival
  module _ (i k u d s : ℕ) (is : x.kind ≡ Arrive i k) (next : i ≡ m.network.declared.orders) (few : i ≤ 1023) (empty : m.lines.state ≡ fresh) (nothing : m.records ≡ []) where
    abbrev v : Machine
    v = with_network (with_event x c m) (with_new_order m.network i (new_order u d s))

    abbrev who_now : ℕ → LineEntry
    who_now j = line_entry v.network j

    all_none : (w : ℕ) → AllByRecursion (AllByRecursion (Written who_now)) (replicate w [])
    all_none zero = tt
    all_none (suc w) = (tt, all_none w)

    state_there : (j : ℕ) → (j ≡ i → ⊥) → (order v.network j).state ≡ (order m.network j).state
    state_there j ne = ap (λ (y : Order). y.state) (get_or-set_other m.network.orders i j (new_order u d s) no_order ne)

    pub declared_base : Base who_now (n + 1) v
    declared_base = record {
      size = length-set m.network.orders i (new_order u d s) ∙ b.size;
      few = omega (arith, next);
      known = λ j. refl;
      written = subst (λ (l : State LineEntry). AllByRecursion (AllByRecursion (Written who_now)) l.lists) (sym empty) (all_none 32);
      stamped = b.stamped;
      good = subst (Good who_now) (sym nothing) tt;
      left = puts any_arrival ∙ omega (arith, ap is_arrival is, b.left);
      undeclared = λ j le. state_there j (λ e. omega (arith, le, next, e)) ∙ b.undeclared j (omega arith);
      ranged = ranged_more;
    }

    was : Fits m i NotYet
    was = subst (Fits m i) (b.undeclared i (omega (arith, next))) (o.fits i tt)

    here : Fits v i NotYet
    here =
        let self : one (eqb i i) ≡ 1 = grind (arith, nat_tests) in
        let new : one (ltb i (m.network.declared.orders + 1)) ≡ 1 = grind (arith, nat_tests, next) in
        let old : one (ltb i m.network.declared.orders) ≡ 0 = grind (arith, nat_tests, next) in (
          record {
            arrivals = puts (arrival_of i) ∙ omega (arith, ap (arrives i) is, self, new, old, was.0.arrivals);
            finishes = puts (finish_of i) ∙ omega (arith, ap (ends i) is, was.0.finishes);
            waits = was.0.waits;
          },
          was.1,
        )

    there : (j : ℕ) → (j ≡ i → ⊥) → (st : OrderState) → Fits m j st → Fits v j st
    there j ne st f = go st f
      where
        same : Same m v j
        same = let q = put_same j (subst (Foreign j) (sym is) (foreign_arrival i k j ne)) in record { arrivals = q.arrivals; finishes = q.finishes; benches = q.benches; waits = q.waits; lines = q.lines; place = q.place; unfinished = q.unfinished }

        go : (z : OrderState) → Fits m j z → Fits v j z
        go NotYet p =
            let e : one (ltb j m.network.declared.orders) ≡ one (ltb j (m.network.declared.orders + 1)) = grind (arith, nat_tests, next, ne) in
            (subst (λ y. Spot v j y 0 0) e (spot_same m v j _ 0 0 same p.0), settled_same m v j same p.1)
        go (Waiting t) p = (spot_same m v j 0 0 1 same p.0, (p.1.0, same.unfinished ∙ p.1.1, same.place ∙ p.1.2, p.1.3))
        go (InService l t) p = (spot_same m v j 0 1 0 same p.0, (same.place ∙ p.1.0, omega (arith, p.1.1, same.benches l t)))
        go Done p = (spot_same m v j 0 0 0 same p.0, settled_same m v j same p.1)
        go Away p = (spot_same m v j 0 0 0 same p.0, settled_same m v j same p.1)
        go Withdrawn p = (spot_same m v j 0 0 0 same p.0, same.place ∙ p.1)
        go Stranded p = (spot_same m v j 0 0 0 same p.0, p.1)

    pub declared_orders : Orders [] (n + 1) v
    declared_orders = record {
      pending =
          let e : take (m.network.declared.orders + 1) (set m.network.orders i (new_order u d s)) ≡ take i m.network.orders ++ (new_order u d s ∷ []) = ap (λ y. take (y + 1) (set m.network.orders i (new_order u d s))) (sym next) ∙ take_more_set m.network.orders i (new_order u d s) (omega (arith, b.size)) in
          ap (sum_by (λ (y : Order). pending_in y.state)) e ∙ sum_by_push (λ (y : Order). pending_in y.state) (take i m.network.orders) (new_order u d s) ∙ omega (arith, ap (λ y. sum_by (λ (z : Order). pending_in z.state) (take y m.network.orders)) next, o.pending);
      hand = tt;
      apart = tt;
      fits = λ j q. go j (cases_eq j i);
    }
      where
        go : (j : ℕ) → (j ≡ i) ⊎ (j ≡ i → ⊥) → Fits v j (order v.network j).state
        go j (inl e) = subst (λ y. Fits v y (order v.network y).state) (sym e) (subst (Fits v i) (sym (ap (λ (y : Order). y.state) (get_or-set_same m.network.orders i (new_order u d s) no_order (omega (arith, b.size))))) here)
        go j (inr e) = subst (Fits v j) (sym (state_there j e)) (there j e (order m.network j).state (o.fits j tt))
