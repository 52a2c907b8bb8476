-- The ways in which an order in hand is spent.
use Rattle.std.proofs.Common.{◌≡◌, ℕ, ◌+◌, ◌<◌, ◌≤◌, true, false, cond, ◌&&◌, eqb, List, [], ◌∷◌, ◌++◌, length, get_or, Some, None, Ok, Option, sym, refl, ap, ◌∙◌, subst, arith}
use Rattle.std.specs.List.{AllByRecursion}
use Rattle.std.proofs.ByRecursion.{All-set}
use Rattle.std.proofs.lemmas.List.{length-set}
use Rattle.std.proofs.lemmas.Bool.{eq-eqb}
use Rattle.elements.specs.declared.events.Event.{Event}
use Rattle.elements.specs.declared.lines.LineEntry.{LineEntry}
use Rattle.elements.specs.declared.entries.Entry.{Entry}
use Rattle.elements.specs.Elements.{event_le, line_le}
use Rattle.elements.specs.Order.{precedes_by}
use Rattle.stores.specs.Meaning.{list_of}
use Rattle.stores.specs.Calls.{put_after}
use Rattle.machine.specs.declared.networks.Order.{Order}
use Rattle.machine.specs.declared.networks.Network.{Network}
use Rattle.machine.specs.declared.networks.OrderState.{OrderState}
use Rattle.machine.specs.declared.networks.OrderState.TheVariants.{Waiting, InService, Stranded}
use Rattle.machine.specs.declared.records.RecordKind.{RecordKind}
use Rattle.machine.specs.declared.records.RecordKind.TheVariants.{Start}
use Rattle.machine.specs.declared.records.Record.{Record}
use Rattle.machine.specs.Network.{no_order, order, with_state, line_entry}
use Rattle.machine.specs.Machine.{Machine, listed, with_cut, with_events, with_lines, tell, mark, strand}
use Rattle.machine.specs.Step.{finish_event, started, waited, its_entry}
use Rattle.machine_laws.specs.Entries.{total}
use Rattle.machine_laws.specs.History.{place}
use Rattle.machine_laws.specs.Whereabouts.{one, arrival_of, finish_of, finish_with, wait_of, Spot}
use Rattle.machine_laws.proofs.Elements.{set_alike, all_get, all_insert}
use Rattle.machine_laws.proofs.Totalling.{total_put}
use Rattle.machine_laws.proofs.Histories.{waits, waits_push, place_push, unfinished, unfinished_push, Fair, Allowed, Good, good_push}
use Rattle.machine_laws.proofs.Orders.{wait_at, any_arrival, pending_in, Hand, Fits, Ranged, Base, Orders}
use Rattle.machine_laws.proofs.Hands.{Marks, state_there, spend}
use Rattle.machine_laws.proofs.Unchanged.{same_by, events_kept, lines_kept, told_kept, foreign_finish, event_put, line_put, Silent, told_silent, start_silent, wait_silent}

abbrev pub Written : (ℕ → LineEntry) → Entry LineEntry → Type 0
Written who e = e.element ≡ who e.element.order

-- a network in which an order has another state shows each order in a line as before
pub marks_known : (i : ℕ) (st : OrderState) (a b : Network) → Marks i st a b → (j : ℕ) → line_entry b j ≡ line_entry a j
marks_known i st a b k j =
    let face : Order → ℕ × ℕ = λ o. (o.urgency, o.due) in
    let e : face (order b j) ≡ face (order a j) = ap (λ os. face (get_or os j no_order)) k.orders ∙ set_alike face a.orders i j (with_state (order a i) st) no_order refl in
    ap (λ (p : ℕ × ℕ). record { order = j; urgency = p.0; due = p.1 }) e

marks_size : (i : ℕ) (st : OrderState) (a b : Network) → Marks i st a b → length b.orders ≡ length a.orders
marks_size i st a b k = ap length k.orders ∙ length-set a.orders i _

module _ (who : ℕ → LineEntry) (n : ℕ) (m v : Machine) where
  -- after a change of one order's state, and of what the other parts say
  pub base_marked : (i : ℕ) (st : OrderState) → i < m.network.declared.orders → Base who n m → Marks i st m.network v.network → AllByRecursion (AllByRecursion (Written who)) v.lines.state.lists → waits v.records ≡ v.lines.state.next → Good who v.records → total any_arrival v.events.state ≡ n → AllByRecursion (AllByRecursion Ranged) v.events.state.lists → Base who n v
  base_marked i st lt b k w s g l z = record {
    size = marks_size i st m.network v.network k ∙ b.size;
    few = subst (λ d. d ≤ 1024) (sym k.declared) b.few;
    known = λ j. marks_known i st m.network v.network k j ∙ b.known j;
    written = w;
    stamped = s;
    good = g;
    left = l;
    undeclared = λ j h. state_there i st m.network v.network k j (λ e. absurd (omega (arith, lt, h, k.declared, e))) ∙ b.undeclared j (subst (λ d. d ≤ j) k.declared h);
    ranged = z;
  }

pub roomy : (who : ℕ → LineEntry) (n : ℕ) (m : Machine) → Base who n m → m.network.declared.orders ≤ length m.network.orders
roomy who n m b = omega (arith, b.few, b.size)

same_number : (i : ℕ) → eqb i i ≡ true
same_number i = eq-eqb i i refl

-- order i starts at station k
module _ (who : ℕ → LineEntry) (i k n : ℕ) (x : Hand) (h : List Hand) (m : Machine) (c : Option ℕ) (xi : x.order ≡ i) (b : Base who n m) (o : Orders (x ∷ h) n m) where
  declared_in : i < m.network.declared.orders
  declared_in = subst (λ j. j < m.network.declared.orders) xi o.hand.0.declared

  spot_in : Spot m i 0 0 0
  spot_in = subst (λ j. Spot m j 0 0 0) xi o.hand.0.spot

  module _ (inside : 0 < length m.events.state.lists) (fair : Fair who (λ j. place j m.records) i k) (idle : x.unfinished ≡ false) where
    abbrev put_finish : Machine
    put_finish = with_cut (with_events m (listed m.events (put_after event_le m.events.state 0 (finish_event i k m) (Ok m.events.state.next)))) c

    abbrev begun : Machine
    begun = started i k (Ok m.events.state.next) put_finish

    puts : (f : ℕ → Entry Event → ℕ) → total f begun.events.state ≡ total f m.events.state + f 0 (record { element = finish_event i k m; stamp = m.events.state.next })
    puts f = total_put f event_le m.events.state 0 (finish_event i k m) m.events.state.next inside

    start_record : Record
    start_record = record { at = m.instant; kind = Start i k }

    unfinished_before : unfinished i m.records ≡ false
    unfinished_before = subst (λ j. unfinished j m.records ≡ x.unfinished) xi o.hand.0.unfinished ∙ idle

    marks : Marks i (InService k m.events.state.next) m.network begun.network
    marks = record { orders = refl; declared = refl }

    pub start_base : Base who n begun
    start_base = base_marked who n m begun i (InService k m.events.state.next) declared_in b marks b.written (waits_push m.records _ ∙ (omega (arith, b.stamped))) (good_push who m.records _ b.good (fair, unfinished_before)) (puts any_arrival ∙ omega (arith, b.left)) (All-set (AllByRecursion Ranged) m.events.state.lists 0 _ (all_insert Ranged (precedes_by event_le) _ (list_of m.events.state 0) tt (all_get (AllByRecursion Ranged) m.events.state.lists 0 [] b.ranged tt)) b.ranged)

    pub start_orders : Orders h n begun
    start_orders = spend i (InService k m.events.state.next) x h n m begun xi o (roomy who n m b) marks refl (λ f q. f q)
        (λ j ne. same_by m begun j (event_put m.events.state _ m.events.state.next j inside (foreign_finish i k j ne)) (lines_kept m.lines.state j) (told_silent m.records _ j (start_silent i k j ne))) (
          record { arrivals = puts (arrival_of i) ∙ omega (arith, spot_in.arrivals); finishes = puts (finish_of i) ∙ omega (arith, spot_in.finishes, ap one (same_number i)); waits = spot_in.waits },
          (place_push i m.records _ ∙ ap (λ t. cond t None (place i m.records)) (same_number i), omega (arith, puts (finish_with i k m.events.state.next), here)),
        )
      where
        here : cond (eqb m.events.state.next m.events.state.next) (one (eqb i i && eqb k k)) 0 ≡ 1
        here = λ j. cond (same_number m.events.state.next j) (one (same_number i j && same_number k j)) 0

  -- order i waits in line k
  module _ (inside : k < length m.lines.state.lists) (idle : x.unfinished ≡ false) where
    abbrev put_entry : Machine
    put_entry = with_cut (with_lines m (listed m.lines (put_after line_le m.lines.state k (its_entry i m) (Ok m.lines.state.next)))) c

    abbrev queued : Machine
    queued = waited i k (Ok m.lines.state.next) put_entry

    enters : (f : ℕ → Entry LineEntry → ℕ) → total f queued.lines.state ≡ total f m.lines.state + f k (record { element = its_entry i m; stamp = m.lines.state.next })
    enters f = total_put f line_le m.lines.state k (its_entry i m) m.lines.state.next inside

    wait_marks : Marks i (Waiting m.lines.state.next) m.network queued.network
    wait_marks = record { orders = refl; declared = refl }

    pub wait_base : Base who n queued
    wait_base = base_marked who n m queued i (Waiting m.lines.state.next) declared_in b wait_marks
        (All-set (AllByRecursion (Written who)) m.lines.state.lists k _ (all_insert (Written who) (precedes_by line_le) _ (list_of m.lines.state k) (b.known i) (all_get (AllByRecursion (Written who)) m.lines.state.lists k [] b.written tt)) b.written)
        (waits_push m.records _ ∙ ap (λ y. y + 1) b.stamped)
        (good_push who m.records _ b.good tt)
        b.left
        b.ranged

    pub wait_orders : Orders h n queued
    wait_orders = spend i (Waiting m.lines.state.next) x h n m queued xi o (roomy who n m b) wait_marks refl (λ f q. f q)
        (λ j ne. same_by m queued j (events_kept m.events.state j) (line_put m.lines.state k m.lines.state.next j (its_entry i m) inside ne) (told_silent m.records _ j (wait_silent i k j ne))) (
          record { arrivals = spot_in.arrivals; finishes = spot_in.finishes; waits = enters (wait_of i) ∙ omega (arith, spot_in.waits, ap one (same_number i)) },
          (
            k,
            unfinished_push i m.records _ ∙ subst (λ j. unfinished j m.records ≡ x.unfinished) xi o.hand.0.unfinished ∙ idle,
            place_push i m.records _ ∙ (λ j. cond (same_number i j) (Some (k, b.stamped j)) (place i m.records)),
            omega (arith, enters (wait_at i m.lines.state.next k), here),
          ),
        )
      where
        here : cond (eqb k k) (cond (eqb m.lines.state.next m.lines.state.next) (one (eqb i i)) 0) 0 ≡ 1
        here = λ j. cond (same_number k j) (cond (same_number m.lines.state.next j) (one (same_number i j)) 0) 0

  -- order i is gone: it is away, or done
  module _ (y : RecordKind) (silent : (j : ℕ) → Silent j y) (idle : x.unfinished ≡ false) (nowhere : x.place ≡ None) (allowed : Allowed who (λ j. place j m.records) (λ j. unfinished j m.records) y) (no_wait : waits (m.records ++ (record { at = m.instant; kind = y } ∷ [])) ≡ waits m.records) where
    abbrev left_as : OrderState → Machine
    left_as st = tell y (mark i st (with_cut m c))

    gone_marks : (st : OrderState) → Marks i st m.network (left_as st).network
    gone_marks st = record { orders = refl; declared = refl }

    pub gone_base : (st : OrderState) → Base who n (left_as st)
    gone_base st = base_marked who n m (left_as st) i st declared_in b (gone_marks st) b.written (no_wait ∙ b.stamped) (good_push who m.records _ b.good allowed) b.left b.ranged

    pub gone_spot : (st : OrderState) → Spot (left_as st) i 0 0 0
    gone_spot st = record { arrivals = spot_in.arrivals; finishes = spot_in.finishes; waits = spot_in.waits }

    pub gone_settled : (st : OrderState) → (unfinished i (left_as st).records ≡ false) × (place i (left_as st).records ≡ None)
    gone_settled st =
        let t = told_silent m.records (record { at = m.instant; kind = y }) i (silent i) in (
          t.unfinished ∙ subst (λ j. unfinished j m.records ≡ x.unfinished) xi o.hand.0.unfinished ∙ idle,
          t.place ∙ subst (λ j. place j m.records ≡ x.place) xi o.hand.0.place ∙ nowhere,
        )

    pub gone_orders : (st : OrderState) → pending_in st ≡ 0 → Fits (left_as st) i st → Orders h n (left_as st)
    gone_orders st z fit = spend i st x h n m (left_as st) xi o (roomy who n m b) (gone_marks st) z (λ f q. f q) (λ j ne. same_by m (left_as st) j (events_kept m.events.state j) (lines_kept m.lines.state j) (told_silent m.records _ j (silent j))) fit

  -- order i is stranded
  module _ (faulted : m.fault ≡ None → ⊥) where
    strand_marks : Marks i Stranded m.network (strand i m).network
    strand_marks = record { orders = refl; declared = refl }

    pub strand_base : Base who n (strand i m)
    strand_base = base_marked who n m (strand i m) i Stranded declared_in b strand_marks b.written b.stamped b.good b.left b.ranged

    pub strand_orders : Orders h n (strand i m)
    strand_orders = spend i Stranded x h n m (strand i m) xi o (roomy who n m b) strand_marks refl (λ f q. f q) (λ j ne. same_by m (strand i m) j (events_kept m.events.state j) (lines_kept m.lines.state j) (told_kept m.records j)) (record { arrivals = spot_in.arrivals; finishes = spot_in.finishes; waits = spot_in.waits }, faulted)
