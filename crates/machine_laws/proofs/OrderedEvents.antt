-- Every event keeps what holds of the orders.
use Rattle.std.proofs.Common.{◌≡◌, ℕ, zero, suc, ◌+◌, ◌<◌, Bool, true, false, ◌||◌, eqb, List, [], ◌∷◌, Some, None, Option, sym, refl, ap, ◌∙◌, subst, arith}
use Rattle.std.specs.List.{AllByRecursion}
use Rattle.std.proofs.lemmas.Bool.{or_parts, eqb-false}
use Rattle.elements.specs.declared.events.Event.{Event}
use Rattle.elements.specs.declared.events.EventKind.{EventKind}
use Rattle.elements.specs.declared.events.EventKind.TheVariants.{Arrive, Finish as Finishing, Withdraw, Close as Closing}
use Rattle.elements.specs.declared.lines.LineEntry.{LineEntry}
use Rattle.elements.specs.declared.entries.Entry.{Entry}
use Rattle.stores.specs.Meaning.{list_of, count_of}
use Rattle.stores.specs.Calls.{front}
use Rattle.machine.specs.declared.networks.OrderState.{OrderState}
use Rattle.machine.specs.declared.networks.OrderState.TheVariants.{NotYet, Waiting, InService, Done as is-done, Away as is-away, Withdrawn as is-withdrawn, Stranded}
use Rattle.machine.specs.declared.forms.ScriptRefusal.{ScriptRefusal}
use Rattle.machine.specs.declared.records.RecordKind.{RecordKind}
use Rattle.machine.specs.declared.records.RecordKind.TheVariants.{Withdrawn, Missed, Finish, Close, Kept}
use Rattle.machine.specs.declared.records.Fault.{Fault}
use Rattle.machine.specs.Network.{station, order, has_free, marked, freed, closed}
use Rattle.machine.specs.Machine.{Machine, with_network, tell, mark, strand, branch, halted, halted_by, is_some, as_is}
use Rattle.machine.specs.Step.{next_event, meld_lines, free_bench, release, leave, finish, cancel_event, cancel_line, withdraw_by, withdraw, fill_by, fill_one, fill, stays_open, close_into, close_by, close, react}
use Rattle.machine_laws.specs.Arrivals.{is_arrival}
use Rattle.machine_laws.specs.Entries.{total}
use Rattle.machine_laws.specs.History.{place, waits_in}
use Rattle.machine_laws.proofs.Elements.{all_get}
use Rattle.machine_laws.proofs.Timing.{Sound, keeps}
use Rattle.machine_laws.proofs.Histories.{waits_push, unfinished, Allowed, good_push}
use Rattle.machine_laws.proofs.Orders.{any_arrival, Hand, Stations, Ranged, Base, Orders}
use Rattle.machine_laws.proofs.Unchanged.{front_leaves, same_by, events_kept, lines_kept, Silent, told_silent, missed_silent, kept_silent, foreign_withdrawal, foreign_closing, Foreign}
use Rattle.machine_laws.proofs.Spending.{strand_base, strand_orders}
use Rattle.machine_laws.proofs.Holding.{carry, base_kept, taken, arrived_base, arrived_orders, finished_base, finished_orders, other_base, other_orders}
use Rattle.machine_laws.proofs.Withdrawing.{withdrawn_base, withdrawn_orders, waiting_base, waiting_orders, fits_waiting, serving_base, serving_orders}
use Rattle.machine_laws.proofs.Melding.{melded_is, melded_base, melded_orders}
use Rattle.machine_laws.proofs.OrderedSteps.{Inv, still, enter_inv, front_inv, leave_inv}

-- where nothing was refused, what halts is a fault
halted_fault : (r : Option ScriptRefusal) (f : Option Fault) → r ≡ None → halted_by r f ≡ true → f ≡ None → ⊥
halted_fault None None p q e = let z : ◌≡◌ {A = ℕ} 0 1 = cc in omega arith
halted_fault None (Some f) p q e = let z : ◌≡◌ {A = ℕ} 0 1 = cc in omega arith
halted_fault (Some r) f p q e = let z : ◌≡◌ {A = ℕ} 0 1 = cc in omega arith

halted_none : (r : Option ScriptRefusal) (f : Option Fault) → halted_by r f ≡ false → f ≡ None
halted_none None None q = refl
halted_none None (Some f) q = absurd (let z : ◌≡◌ {A = ℕ} 0 1 = cc in omega arith)
halted_none (Some r) f q = absurd (let z : ◌≡◌ {A = ℕ} 0 1 = cc in omega arith)

module _ (who : ℕ → LineEntry) where
  -- a record that tells nothing of any order
  silent_inv : (y : RecordKind) (h : List Hand) (n : ℕ) (m : Machine) → ((j : ℕ) → Silent j y) → Allowed who (λ j. place j m.records) (λ j. unfinished j m.records) y → waits_in y ≡ 0 → Inv who h n m → Inv who h n (tell y m)
  silent_inv y h n m s a z inv = record {
    base = base_kept h n m (tell y m) refl refl who n inv.base inv.base.written (waits_push m.records _ ∙ omega (arith, z, inv.base.stamped)) (good_push who m.records _ inv.base.good a) inv.base.left inv.base.ranged;
    orders = carry h n m (tell y m) refl refl (λ f q. f q) (λ j. same_by m (tell y m) j (events_kept m.events.state j) (lines_kept m.lines.state j) (told_silent m.records _ j (s j))) inv.orders;
    sound = keeps.told y m inv.sound;
    calm = inv.calm;
  }

  -- a bench becomes free
  free_inv : (k : ℕ) (h : List Hand) (n : ℕ) (m : Machine) → Inv who h n m → Inv who h n (free_bench k m)
  free_inv k h n m inv =
      let s = still who h n m (free_bench k m) refl refl refl refl refl (λ f q. f q) inv.base inv.orders in
      record { base = s.0; orders = s.1; sound = inv.sound; calm = inv.calm }

  -- order i, in hand, has finished at station k
  finish_inv : (i k n : ℕ) (m : Machine) → m.fault ≡ None → Inv who (record { order = i; place = None; unfinished = false } ∷ []) n (tell (Finish i k) m) → Inv who [] n (finish i k m)
  finish_inv i k n m running inv = go (halted (release i k m)) refl
    where
      released : Inv who (record { order = i; place = None; unfinished = false } ∷ []) n (release i k m)
      released = front_inv who k n (record { order = i; place = None; unfinished = false } ∷ []) (free_bench k (tell (Finish i k) m)) running (refl, tt) (free_inv k (record { order = i; place = None; unfinished = false } ∷ []) n (tell (Finish i k) m) inv)

      go : (b : Bool) → halted (release i k m) ≡ b → Inv who [] n (branch b (leave i k) (strand i) (release i k m))
      go false e = leave_inv who i k n (record { order = i; place = None; unfinished = false }) [] (release i k m) refl refl refl released
      go true e =
          let f = halted_fault (release i k m).refusal (release i k m).fault released.calm e in
          record {
            base = strand_base who i k n (record { order = i; place = None; unfinished = false }) [] (release i k m) None refl released.base released.orders f;
            orders = strand_orders who i k n (record { order = i; place = None; unfinished = false }) [] (release i k m) None refl released.base released.orders f;
            sound = released.sound;
            calm = released.calm;
          }

  withdraw_inv : (i n : ℕ) (m : Machine) → m.fault ≡ None → Inv who [] n m → Inv who [] n (withdraw i m)
  withdraw_inv i n m running inv = go (order m.network i).state refl
    where
      missed : Inv who [] n (tell (Missed i) m)
      missed = silent_inv (Missed i) [] n m (missed_silent i) tt refl inv

      go : (st : OrderState) → (order m.network i).state ≡ st → Inv who [] n (withdraw_by st i m)
      go NotYet e = missed
      go (Waiting s) e =
          let tidy = inv.sound.lines_tidy in
          let b = waiting_base who i s n m inv.base inv.orders tidy e in
          let o = waiting_orders who i s n m inv.base inv.orders tidy e in
          let x : Hand = record { order = i; place = Some ((fits_waiting who i s n m inv.base inv.orders tidy e).1.0, s); unfinished = false } in
          let net = marked i is-withdrawn m.network in
          record {
            base = withdrawn_base who i n x [] (cancel_line s m) refl b o net (record { orders = refl; declared = refl });
            orders = withdrawn_orders who i n x [] (cancel_line s m) refl b o net (record { orders = refl; declared = refl });
            sound = keeps.told (Withdrawn i) (mark i is-withdrawn (cancel_line s m)) (keeps.line_cancelled s m inv.sound);
            calm = inv.calm;
          }
      go (InService k s) e =
          let tidy = inv.sound.events_tidy in
          let b = serving_base who i s n m inv.base inv.orders k tidy e in
          let o = serving_orders who i s n m inv.base inv.orders k tidy e in
          let x : Hand = record { order = i; place = None; unfinished = unfinished i m.records } in
          let net = freed k (marked i is-withdrawn m.network) in
          front_inv who k n [] (tell (Withdrawn i) (free_bench k (mark i is-withdrawn (cancel_event s m)))) running tt (record {
            base = withdrawn_base who i n x [] (cancel_event s m) refl b o net (record { orders = refl; declared = refl });
            orders = withdrawn_orders who i n x [] (cancel_event s m) refl b o net (record { orders = refl; declared = refl });
            sound = keeps.told (Withdrawn i) (free_bench k (mark i is-withdrawn (cancel_event s m))) (keeps.event_cancelled s m inv.sound);
            calm = inv.calm;
          })
      go is-done e = missed
      go is-away e = missed
      go is-withdrawn e = missed
      go Stranded e = missed

  fill_one_inv : (j n : ℕ) (m : Machine) → m.fault ≡ None → Inv who [] n m → Inv who [] n (fill_one j m)
  fill_one_inv j n m running inv = go (has_free m.network j)
    where
      go : (b : Bool) → Inv who [] n (fill_by b j m)
      go true = front_inv who j n [] m running tt inv
      go false = inv

  fill_inv : (c j n : ℕ) (m : Machine) → Inv who [] n m → Inv who [] n (fill c j m)
  fill_inv zero j n m inv = inv
  fill_inv (suc c) j n m inv = go (halted (fill c j m)) refl (fill_inv c j n m inv)
    where
      go : (b : Bool) → halted (fill c j m) ≡ b → Inv who [] n (fill c j m) → Inv who [] n (branch b (fill_one j) as_is (fill c j m))
      go false e i = fill_one_inv j n (fill c j m) (halted_none (fill c j m).refusal (fill c j m).fault e) i
      go true e i = i

  close_inv : (k j n : ℕ) (m : Machine) → k < 32 → j < 32 → Inv who [] n m → Inv who [] n (close k j m)
  close_inv k j n m lk lj inv = go (stays_open k j m.network) refl
    where
      go : (b : Bool) → stays_open k j m.network ≡ b → Inv who [] n (close_by b k j m)
      go true e = silent_inv (Kept k j) [] n m (kept_silent k j) tt refl inv
      go false e =
          let p = or_parts (eqb k j) (is_some (station m.network k).into || is_some (station m.network j).into) e in
          let ne : j ≡ k → ⊥ = λ q. eqb-false k j p.0 (sym q) in
          let q = inv.sound.lines_tidy.queues in
          let is = melded_is k j m lk lj ne in
          fill_inv 8 j n (close_into k j m) (record {
            base = subst (Base who n) (sym is) (melded_base who n k j m inv.base inv.orders (omega (arith, q)) (omega (arith, q)) ne);
            orders = subst (Orders [] n) (sym is) (melded_orders who n k j m inv.base inv.orders (omega (arith, q)) (omega (arith, q)) ne);
            sound = keeps.told (Close k j (count_of m.lines.state k)) (meld_lines j k (with_network m (closed k j m.network))) (keeps.line_melded j k (with_network m (closed k j m.network)) inv.sound);
            calm = inv.calm;
          })

  -- the front event e is taken from m, and happens
  module _ (n : ℕ) (m : Machine) (inv : Inv who [] n m) (running : m.fault ≡ None) (e : Entry Event) (p : next_event m ≡ Some e) (s : Sound (taken e m)) where
    ranged : (xs : List (Entry Event)) → front xs ≡ Some e → AllByRecursion Ranged xs → Ranged e
    ranged [] q a = absurd (let w : ◌≡◌ {A = ℕ} 0 1 = cc in omega arith)
    ranged (x ∷ xs) q a = let same : x ≡ e = cc in subst Ranged same a.0

    in_range : Ranged e
    in_range = ranged (list_of m.events.state 0) p (all_get (AllByRecursion Ranged) m.events.state.lists 0 [] inv.base.ranged tt)

    -- as many arrivals as the event is are no longer left
    pub react_inv : (x : EventKind) → e.element.kind ≡ x → (q : ℕ) × (n ≡ q + is_arrival x) × Inv who [] q (react x (taken e m))
    react_inv (Arrive i k) is =
        let l : n ≡ total any_arrival (taken e m).events.state + 1 = omega (arith, inv.base.left, (front_leaves m.events.state 0 e p).total any_arrival, ap is_arrival is) in (
          _,
          l,
          enter_inv who i k _ (record { order = i; place = None; unfinished = false }) [] (taken e m) refl refl refl (record {
            base = arrived_base who n m inv.base inv.orders e p i k is;
            orders = arrived_orders who n m inv.base inv.orders e p i k is;
            sound = s;
            calm = inv.calm;
          }),
        )
    react_inv (Finishing i k) is = (
      n,
      omega arith,
      finish_inv i k n (taken e m) running (record {
        base = finished_base who n m inv.base inv.orders e p i k is;
        orders = finished_orders who n m inv.base inv.orders e p i k is;
        sound = keeps.told (Finish i k) (taken e m) s;
        calm = inv.calm;
      }),
    )
    react_inv (Withdraw i) is = (
      n,
      omega arith,
      withdraw_inv i n (taken e m) running (record {
        base = other_base who n m inv.base inv.orders e p (ap is_arrival is) (λ j. subst (Foreign j) (sym is) (foreign_withdrawal i j));
        orders = other_orders who n m inv.base inv.orders e p (ap is_arrival is) (λ j. subst (Foreign j) (sym is) (foreign_withdrawal i j));
        sound = s;
        calm = inv.calm;
      }),
    )
    react_inv (Closing k j) is =
        let r : (k < 32) × (j < 32) = subst Stations is in_range in (
          n,
          omega arith,
          close_inv k j n (taken e m) r.0 r.1 (record {
            base = other_base who n m inv.base inv.orders e p (ap is_arrival is) (λ i. subst (Foreign i) (sym is) (foreign_closing k j i));
            orders = other_orders who n m inv.base inv.orders e p (ap is_arrival is) (λ i. subst (Foreign i) (sym is) (foreign_closing k j i));
            sound = s;
            calm = inv.calm;
          }),
        )
