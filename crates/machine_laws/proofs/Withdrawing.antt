-- An order is withdrawn: its entry leaves the line, or its finish the events.
use Rattle.std.proofs.Common.{◌≡◌, ℕ, ◌<◌, ◌≤◌, Bool, true, false, cond, ◌&&◌, eqb, ltb, List, [], ◌∷◌, Some, None, Option, sym, refl, ap, ◌∙◌, subst, arith}
use Rattle.std.specs.List.{AllByRecursion}
use Rattle.std.proofs.ByRecursion.{All-set}
use Rattle.std.proofs.lemmas.Bool.{eq-eqb, eqb-true, and_parts}
use Rattle.std.proofs.lemmas.Bool.Decides.{nat_tests}
use Rattle.elements.specs.declared.events.Event.{Event}
use Rattle.elements.specs.declared.events.EventKind.{EventKind}
use Rattle.elements.specs.declared.events.EventKind.TheVariants.{Arrive, Finish as Finishing, Withdraw, Close as Closing}
use Rattle.elements.specs.declared.lines.LineEntry.{LineEntry}
use Rattle.elements.specs.declared.entries.Entry.{Entry}
use Rattle.elements.specs.Elements.{event_le, line_le}
use Rattle.elements.specs.Order.{stamp_of}
use Rattle.stores.specs.Meaning.{State, list_of}
use Rattle.stores.specs.Calls.{cancel_after, found, queue_with}
use Rattle.machine.specs.declared.networks.Network.{Network}
use Rattle.machine.specs.declared.networks.OrderState.TheVariants.{Waiting, InService, Withdrawn as is-withdrawn}
use Rattle.machine.specs.declared.records.RecordKind.TheVariants.{Withdrawn}
use Rattle.machine.specs.Network.{order}
use Rattle.machine.specs.Machine.{Machine, with_network, tell}
use Rattle.machine.specs.Step.{cancel_event, cancel_line}
use Rattle.machine_laws.specs.Arrivals.{is_arrival}
use Rattle.machine_laws.specs.Entries.{total}
use Rattle.machine_laws.specs.History.{place}
use Rattle.machine_laws.specs.Whereabouts.{one, arrives, arrival_of, ends, finish_of, ends_at, finish_with, wait_of, Spot}
use Rattle.machine_laws.proofs.Elements.{all_get, all_without}
use Rattle.machine_laws.proofs.Totalling.{stamp_is, total_le, Leaves, cancel_leaves}
use Rattle.machine_laws.proofs.TidyStores.{Tidy}
use Rattle.machine_laws.proofs.Histories.{waits_push, place_push, unfinished, good_push}
use Rattle.machine_laws.proofs.Orders.{wait_at, any_arrival, pending_in, Hand, Fits, Ranged, Base, Orders}
use Rattle.machine_laws.proofs.Hands.{Marks, spend, hold}
use Rattle.machine_laws.proofs.Unchanged.{same_by, events_kept, lines_kept, told_kept, foreign_finish, Foreign, event_left, line_left, told_silent, withdrawn_silent}
use Rattle.machine_laws.proofs.Spending.{Written, base_marked, roomy}
use Rattle.machine_laws.proofs.Holding.{base_kept, is_declared}

module _ {T : Type 0} (P : Entry T → Type 0) (s : State T) (k : ℕ) where
  all_cancelled : (o : Option ℕ) → AllByRecursion (AllByRecursion P) s.lists → AllByRecursion (AllByRecursion P) (cancel_after s k (found 0 o)).lists
  all_cancelled None h = h
  all_cancelled (Some q) h = All-set (AllByRecursion P) s.lists q _ (all_without P stamp_of k (list_of s q) (all_get (AllByRecursion P) s.lists q [] h tt)) h

next_kept : {T : Type 0} (s : State T) (k : ℕ) (o : Option ℕ) → (cancel_after s k (found 0 o)).next ≡ s.next
next_kept s k None = refl
next_kept s k (Some q) = refl

same_number : (i : ℕ) → eqb i i ≡ true
same_number i = eq-eqb i i refl

-- a stamp is there at most once, so that it is gone when an entry with it left
gone : {T : Type 0} (le : T → T → Bool) (s t : State T) (k : ℕ) → Tidy le s → Leaves s t k → total (stamp_is k) t ≡ 0
gone le s t k tidy l =
    let most : cond (ltb k s.next) 1 0 ≤ 1 = grind (arith, nat_tests) in
    let this : stamp_is k l.queue l.entry ≡ 1 = ap (λ b. cond b 1 0) (eq-eqb _ _ l.stamp) in
    omega (arith, most, this, tidy.stamps k, l.total (stamp_is k))

at_most_one : (i k : ℕ) (x : EventKind) → ends_at i k x ≤ 1
at_most_one i k (Arrive j l) = omega arith
at_most_one i k (Finishing j l) = grind (arith, nat_tests)
at_most_one i k (Withdraw j) = omega arith
at_most_one i k (Closing l j) = omega arith

finish_is : (i k : ℕ) (x : EventKind) → 1 ≤ ends_at i k x → x ≡ Finishing i k
finish_is i k (Arrive j l) h = absurd (omega arith)
finish_is i k (Finishing j l) h =
    let both : (eqb j i && eqb l k) ≡ true = grind (arith, nat_tests, h) in
    let p = and_parts (eqb j i) (eqb l k) both in
    λ d. Finishing (eqb-true j i p.0 d) (eqb-true l k p.1 d)
finish_is i k (Withdraw j) h = absurd (omega arith)
finish_is i k (Closing l j) h = absurd (omega arith)

-- order i, in hand, is withdrawn
module _ (who : ℕ → LineEntry) (i n : ℕ) (x : Hand) (h : List Hand) (m : Machine) (xi : x.order ≡ i) (b : Base who n m) (o : Orders (x ∷ h) n m) (net : Network) (marks : Marks i is-withdrawn m.network net) where
  abbrev withdrawn : Machine
  withdrawn = tell (Withdrawn i) (with_network m net)

  pub withdrawn_base : Base who n withdrawn
  withdrawn_base = base_marked who n m withdrawn i is-withdrawn (subst (λ j. j < m.network.declared.orders) xi o.hand.0.declared) b marks b.written (waits_push m.records _ ∙ omega (arith, b.stamped)) (good_push who m.records _ b.good tt) b.left b.ranged

  pub withdrawn_orders : Orders h n withdrawn
  withdrawn_orders =
      let s = subst (λ j. Spot m j 0 0 0) xi o.hand.0.spot in
      spend i is-withdrawn x h n m withdrawn xi o (roomy who n m b) marks refl (λ f q. f q)
      (λ j ne. same_by m withdrawn j (events_kept m.events.state j) (lines_kept m.lines.state j) (told_silent m.records _ j (withdrawn_silent i j ne)))
      (record { arrivals = s.arrivals; finishes = s.finishes; waits = s.waits }, place_push i m.records _ ∙ ap (λ t. cond t None (place i m.records)) (same_number i))

module _ (who : ℕ → LineEntry) (i s n : ℕ) (m : Machine) (b : Base who n m) (o : Orders [] n m) where
  -- it waits with the stamp s
  module _ (tidy : Tidy line_le m.lines.state) (is : (order m.network i).state ≡ Waiting s) where
    pub fits_waiting : Fits m i (Waiting s)
    fits_waiting = subst (Fits m i) is (o.fits i tt)

    abbrev after_cancel : State LineEntry
    after_cancel = (cancel_line s m).lines.state

    at_le : (k q : ℕ) (e : Entry LineEntry) → wait_at i s k q e ≤ stamp_is s q e
    at_le k q e = grind (arith, nat_tests)

    line_leaves : Leaves m.lines.state after_cancel s
    line_leaves = cancel_leaves m.lines.state s (omega (arith, fits_waiting.1.3, total_le (wait_at i s fits_waiting.1.0) (stamp_is s) (at_le fits_waiting.1.0) m.lines.state))

    its_order : line_leaves.entry.element.order ≡ i
    its_order =
        let l = line_leaves in
        let k = fits_waiting.1.0 in
        let none : total (wait_at i s k) after_cancel ≤ 0 = omega (arith, total_le (wait_at i s k) (stamp_is s) (at_le k) after_cancel, gone line_le m.lines.state after_cancel s tidy l) in
        let here : 1 ≤ cond (eqb l.queue k) (cond (eqb l.entry.stamp s) (one (eqb l.entry.element.order i)) 0) 0 = omega (arith, none, l.total (wait_at i s k), fits_waiting.1.3) in
        grind (arith, nat_tests, here)

    pub waiting_base : Base who n (cancel_line s m)
    waiting_base = base_kept [] n m (cancel_line s m) refl refl who n b (all_cancelled (Written who) m.lines.state s (queue_with s m.lines.state.lists 0) b.written) (b.stamped ∙ sym (next_kept m.lines.state s (queue_with s m.lines.state.lists 0))) b.good b.left b.ranged

    pub waiting_orders : Orders (record { order = i; place = Some (fits_waiting.1.0, s); unfinished = false } ∷ []) n (cancel_line s m)
    waiting_orders =
        let f = fits_waiting in
        let l = line_leaves in
        let mine : one (eqb l.entry.element.order i) ≡ 1 = ap one (eq-eqb _ _ its_order) in
        hold _ [] n n m (cancel_line s m) tt o refl (omega (arith, ap pending_in is)) (λ x y. x y)
        (λ j ne. same_by m (cancel_line s m) j (events_kept m.events.state j) (line_left m.lines.state after_cancel s j l (λ q. ne (q ∙ its_order))) (told_kept m.records j))
        (record {
          declared = is_declared who n m i b (ap pending_in is);
          spot = record { arrivals = f.0.arrivals; finishes = f.0.finishes; waits = omega (arith, l.total (wait_of i), mine, f.0.waits) };
          place = f.1.2;
          unfinished = f.1.1;
        })

  -- it is in service at station k, its finish has the stamp s
  module _ (k : ℕ) (tidy : Tidy event_le m.events.state) (is : (order m.network i).state ≡ InService k s) where
    fits_serving : Fits m i (InService k s)
    fits_serving = subst (Fits m i) is (o.fits i tt)

    abbrev events_after : State Event
    events_after = (cancel_event s m).events.state

    with_le : (q : ℕ) (e : Entry Event) → finish_with i k s q e ≤ stamp_is s q e
    with_le q e = let one-most = at_most_one i k e.element.kind in grind (arith, nat_tests, one-most)

    event_leaves : Leaves m.events.state events_after s
    event_leaves = cancel_leaves m.events.state s (omega (arith, fits_serving.1.1, total_le (finish_with i k s) (stamp_is s) with_le m.events.state))

    its_finish : event_leaves.entry.element.kind ≡ Finishing i k
    its_finish =
        let l = event_leaves in
        let none : total (finish_with i k s) events_after ≤ 0 = omega (arith, total_le (finish_with i k s) (stamp_is s) with_le events_after, gone event_le m.events.state events_after s tidy l) in
        let here : 1 ≤ cond (eqb l.entry.stamp s) (ends_at i k l.entry.element.kind) 0 = omega (arith, none, l.total (finish_with i k s), fits_serving.1.1) in
        finish_is i k l.entry.element.kind (grind (arith, nat_tests, here))

    left_kept : total any_arrival events_after ≡ n
    left_kept = omega (arith, event_leaves.total any_arrival, ap is_arrival its_finish, b.left)

    pub serving_base : Base who n (cancel_event s m)
    serving_base = base_kept [] n m (cancel_event s m) refl refl who n b b.written b.stamped b.good left_kept (all_cancelled Ranged m.events.state s (queue_with s m.events.state.lists 0) b.ranged)

    pub serving_orders : Orders (record { order = i; place = None; unfinished = unfinished i m.records } ∷ []) n (cancel_event s m)
    serving_orders =
        let f = fits_serving in
        let l = event_leaves in
        hold _ [] n n m (cancel_event s m) tt o refl (omega (arith, ap pending_in is)) (λ x y. x y)
        (λ j ne. same_by m (cancel_event s m) j (event_left m.events.state events_after s j l (subst (Foreign j) (sym its_finish) (foreign_finish i k j ne))) (lines_kept m.lines.state j) (told_kept m.records j))
        (record {
          declared = is_declared who n m i b (ap pending_in is);
          spot = record { arrivals = omega (arith, l.total (arrival_of i), ap (arrives i) its_finish, f.0.arrivals); finishes = omega (arith, l.total (finish_of i), ap (ends i) its_finish, ap one (same_number i), f.0.finishes); waits = f.0.waits };
          place = f.1.0;
          unfinished = refl;
        })
