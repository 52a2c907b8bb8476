-- What one change of a store, or one record more, leaves of the other orders.
use Rattle.std.proofs.Common.{◌≡◌, ℕ, ◌+◌, ◌<◌, Bool, true, false, cond, ◌&&◌, eqb, List, [], ◌∷◌, ◌++◌, length, Some, Ok, sym, refl, ap, ◌∙◌, arith}
use Rattle.std.proofs.lemmas.Bool.{ne_eqb, cond-false}
use Rattle.std.proofs.lemmas.Bool.Decides.{nat_tests}
use Rattle.elements.specs.declared.events.Event.{Event}
use Rattle.elements.specs.declared.events.EventKind.{EventKind}
use Rattle.elements.specs.declared.events.EventKind.TheVariants.{Arrive, Finish as Finishing, Withdraw, Close as Closing}
use Rattle.elements.specs.declared.lines.LineEntry.{LineEntry}
use Rattle.elements.specs.declared.entries.Entry.{Entry}
use Rattle.elements.specs.Elements.{event_le, line_le}
use Rattle.stores.specs.Meaning.{State, list_of}
use Rattle.stores.specs.Calls.{put_after, take_after, front}
use Rattle.machine.specs.declared.records.RecordKind.{RecordKind}
use Rattle.machine.specs.declared.records.RecordKind.TheVariants.{Start, Wait, Away, Withdrawn, Missed, Finish, Done, Kept}
use Rattle.machine.specs.declared.records.Record.{Record}
use Rattle.machine.specs.Machine.{Machine}
use Rattle.machine_laws.specs.Entries.{total}
use Rattle.machine_laws.specs.History.{Place, place_after, place}
use Rattle.machine_laws.specs.Whereabouts.{one, arrives, arrival_of, ends, finish_of, ends_at, finish_with, wait_of}
use Rattle.machine_laws.proofs.Totalling.{total_put, total_take, Leaves}
use Rattle.machine_laws.proofs.Histories.{waits, place_push, unfinished_after, unfinished, unfinished_push}
use Rattle.machine_laws.proofs.Orders.{wait_at, Same}

pub record EventsSame (e f : State Event) (i : ℕ) : Type 0 where
  pub arrivals : total (arrival_of i) f ≡ total (arrival_of i) e
  pub finishes : total (finish_of i) f ≡ total (finish_of i) e
  pub benches : (k s : ℕ) → total (finish_with i k s) f ≡ total (finish_with i k s) e

pub record LinesSame (l k : State LineEntry) (i : ℕ) : Type 0 where
  pub waits : total (wait_of i) k ≡ total (wait_of i) l
  pub lines : (s q : ℕ) → total (wait_at i s q) k ≡ total (wait_at i s q) l

pub record ToldSame (r s : List Record) (i : ℕ) : Type 0 where
  pub place : place i s ≡ place i r
  pub unfinished : unfinished i s ≡ unfinished i r

pub same_by : (m v : Machine) (i : ℕ) → EventsSame m.events.state v.events.state i → LinesSame m.lines.state v.lines.state i → ToldSame m.records v.records i → Same m v i
same_by m v i e l t = record { arrivals = e.arrivals; finishes = e.finishes; benches = e.benches; waits = l.waits; lines = l.lines; place = t.place; unfinished = t.unfinished }

pub events_kept : (e : State Event) (i : ℕ) → EventsSame e e i
events_kept e i = record { arrivals = refl; finishes = refl; benches = λ k s. refl }

pub lines_kept : (l : State LineEntry) (i : ℕ) → LinesSame l l i
lines_kept l i = record { waits = refl; lines = λ s q. refl }

pub told_kept : (r : List Record) (i : ℕ) → ToldSame r r i
told_kept r i = record { place = refl; unfinished = refl }

other : (i j : ℕ) → (j ≡ i → ⊥) → one (eqb i j) ≡ 0
other i j ne = ap one (ne_eqb i j (λ e. ne (sym e)))

-- an event that is no arrival or finish of order j
pub record Foreign (j : ℕ) (x : EventKind) : Type 0 where
  pub arrives : arrives j x ≡ 0
  pub ends : ends j x ≡ 0
  pub ends_at : (k : ℕ) → ends_at j k x ≡ 0

pub foreign_finish : (i k j : ℕ) → (j ≡ i → ⊥) → Foreign j (Finishing i k)
foreign_finish i k j ne = record { arrives = refl; ends = other i j ne; ends_at = λ l. ap (λ b. one (b && eqb k l)) (ne_eqb i j (λ p. ne (sym p))) }

pub foreign_arrival : (i k j : ℕ) → (j ≡ i → ⊥) → Foreign j (Arrive i k)
foreign_arrival i k j ne = record { arrives = other i j ne; ends = refl; ends_at = λ l. refl }

pub foreign_withdrawal : (i j : ℕ) → Foreign j (Withdraw i)
foreign_withdrawal i j = record { arrives = refl; ends = refl; ends_at = λ l. refl }

pub foreign_closing : (k l j : ℕ) → Foreign j (Closing k l)
foreign_closing k l j = record { arrives = refl; ends = refl; ends_at = λ q. refl }

neither : (b : Bool) → ◌≡◌ {A = ℕ} (cond b 0 0) 0
neither true = refl
neither false = refl

-- such an event is put
pub event_put : (e : State Event) (x : Event) (n j : ℕ) → 0 < length e.lists → Foreign j x.kind → EventsSame e (put_after event_le e 0 x (Ok n)) j
event_put e x n j lt h = record {
  arrivals = omega (arith, put (arrival_of j), h.arrives);
  finishes = omega (arith, put (finish_of j), h.ends);
  benches = λ l s. omega (arith, put (finish_with j l s), ap (λ y. cond (eqb n s) y 0) (h.ends_at l) ∙ neither (eqb n s));
}
  where
    put : (f : ℕ → Entry Event → ℕ) → total f (put_after event_le e 0 x (Ok n)) ≡ total f e + f 0 (record { element = x; stamp = n })
    put f = total_put f event_le e 0 x n lt

-- order i is put in line q
pub line_put : (l : State LineEntry) (q n j : ℕ) (x : LineEntry) → q < length l.lists → (j ≡ x.order → ⊥) → LinesSame l (put_after line_le l q x (Ok n)) j
line_put l q n j x lt ne = record {
  waits = omega (arith, total_put (wait_of j) line_le l q x n lt, other x.order j ne);
  lines = λ s k. omega (arith, total_put (wait_at j s k) line_le l q x n lt, none s k);
}
  where
    none : (s k : ℕ) → wait_at j s k q (record { element = x; stamp = n }) ≡ 0
    none s k = ap (λ y. cond (eqb q k) (cond (eqb n s) y 0) 0) (other x.order j ne) ∙ grind (arith, nat_tests)

-- an entry leaves that is not of order j
pub event_left : (e f : State Event) (k j : ℕ) (x : Leaves e f k) → Foreign j x.entry.element.kind → EventsSame e f j
event_left e f k j x h = record {
  arrivals = omega (arith, x.total (arrival_of j), h.arrives);
  finishes = omega (arith, x.total (finish_of j), h.ends);
  benches = λ l s. omega (arith, x.total (finish_with j l s), ap (λ n. cond (eqb x.entry.stamp s) n 0) (h.ends_at l) ∙ neither (eqb x.entry.stamp s));
}

pub line_left : (l r : State LineEntry) (k j : ℕ) (x : Leaves l r k) → (j ≡ x.entry.element.order → ⊥) → LinesSame l r j
line_left l r k j x ne = record {
  waits = omega (arith, x.total (wait_of j), other x.entry.element.order j ne);
  lines = λ s q. omega (arith, x.total (wait_at j s q), none s q);
}
  where
    none : (s q : ℕ) → wait_at j s q x.queue x.entry ≡ 0
    none s q = ap (λ y. cond (eqb x.queue q) (cond (eqb x.entry.stamp s) y 0) 0) (other x.entry.element.order j ne) ∙ grind (arith, nat_tests)

-- the front of a queue leaves it
abbrev pub front_leaves : {T : Type 0} (s : State T) (q : ℕ) (e : Entry T) → front (list_of s q) ≡ Some e → Leaves s (take_after s q (Ok (Some e))) e.stamp
front_leaves s q e p = record { entry = e; queue = q; stamp = refl; total = λ f. total_take f s q e p }

-- a record that tells nothing of order j
pub record Silent (j : ℕ) (x : RecordKind) : Type 0 where
  pub place : (n : ℕ) (p : Place) → place_after j n x p ≡ p
  pub unfinished : (b : Bool) → unfinished_after j x b ≡ b

pub told_silent : (rs : List Record) (x : Record) (j : ℕ) → Silent j x.kind → ToldSame rs (rs ++ (x ∷ [])) j
told_silent rs x j h = record { place = place_push j rs x ∙ h.place (waits rs) (place j rs); unfinished = unfinished_push j rs x ∙ h.unfinished (unfinished j rs) }

pub start_silent : (i k j : ℕ) → (j ≡ i → ⊥) → Silent j (Start i k)
start_silent i k j ne = let z = ne_eqb i j (λ e. ne (sym e)) in record { place = λ n p. cond-false (eqb i j) _ p z; unfinished = λ b. cond-false (eqb i j) true b z }

pub wait_silent : (i k j : ℕ) → (j ≡ i → ⊥) → Silent j (Wait i k)
wait_silent i k j ne = let z = ne_eqb i j (λ e. ne (sym e)) in record { place = λ n p. cond-false (eqb i j) _ p z; unfinished = λ b. refl }

pub withdrawn_silent : (i j : ℕ) → (j ≡ i → ⊥) → Silent j (Withdrawn i)
withdrawn_silent i j ne = let z = ne_eqb i j (λ e. ne (sym e)) in record { place = λ n p. cond-false (eqb i j) _ p z; unfinished = λ b. refl }

pub finish_silent : (i k j : ℕ) → (j ≡ i → ⊥) → Silent j (Finish i k)
finish_silent i k j ne = let z = ne_eqb i j (λ e. ne (sym e)) in record { place = λ n p. refl; unfinished = λ b. cond-false (eqb i j) false b z }

pub away_silent : (i k j : ℕ) → Silent j (Away i k)
away_silent i k j = record { place = λ n p. refl; unfinished = λ b. refl }

pub done_silent : (i j : ℕ) → Silent j (Done i)
done_silent i j = record { place = λ n p. refl; unfinished = λ b. refl }

pub missed_silent : (i j : ℕ) → Silent j (Missed i)
missed_silent i j = record { place = λ n p. refl; unfinished = λ b. refl }

pub kept_silent : (k i j : ℕ) → Silent j (Kept k i)
kept_silent k i j = record { place = λ n p. refl; unfinished = λ b. refl }
