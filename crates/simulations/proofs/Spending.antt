-- Starting an order, and putting it in a line: each way through.
use Rattle.std.proofs.Common.{◌≡◌, ℕ, ◌+◌, ◌<◌, Bool, true, false, List, length, Ok, Err, Option, Result, sym, refl, ap, ◌∙◌, subst, le_refl, arith}
use Rattle.elements.specs.declared.events.Event.{Event}
use Rattle.elements.specs.declared.events.EventKind.TheVariants.{Finish as Finishing}
use Rattle.elements.specs.declared.lines.LineEntry.{LineEntry}
use Rattle.elements.specs.Elements.{event_le, line_le}
use Rattle.stores.specs.declared.refusals.Refusal.{Refusal}
use Rattle.stores.specs.declared.refusals.Refusal.TheVariants.{NoCell}
use Rattle.stores.specs.Meaning.{Meaning}
use Rattle.stores.specs.Promises.{Puts}
use Rattle.machine.specs.declared.networks.OrderState.TheVariants.{Waiting, InService, Away as is-away, Stranded}
use Rattle.machine.specs.declared.records.RecordKind.TheVariants.{Start, Wait, Away}
use Rattle.machine.specs.declared.records.Record.{Record}
use Rattle.machine.specs.declared.records.StoreName.{StoreName}
use Rattle.machine.specs.declared.records.StoreName.TheVariants.{Events, Orders}
use Rattle.machine.specs.Network.{station, marked, occupied, line_entry}
use Rattle.machine.specs.Machine.{Machine, with_cut, with_lines}
use Rattle.machine.specs.Step.{started as machine-started, start, waited, wait, finish_event, its_entry, at_limit, turned_away}
use Rattle.outcomes.specs.Simulation.{Control, Simulation, Earlier, machine_of, store_of, entries_in}
use Rattle.outcomes.specs.Composition.{Follows}
use Rattle.outcomes.proofs.OnePut.{outcome_event_put, outcome_line_put}
use Rattle.simulations.specs.Conditions.{IsOrder, IsStation, Fit, Each, EventFit, LineFit}
use Rattle.simulations.specs.Calls.{Call}
use Rattle.simulations.specs.Writes.{simulation, with_network, noted, failed, started, queued, sent_away, stranded}
use Rattle.simulations.proofs.Fitting.{each_put, fit_marked, fit_occupied}
use Rattle.simulations.proofs.Writing.{machine_noted, written_noted, written_kept}

-- the finish of order i that starts at station k
abbrev pub its_finish : ℕ → ℕ → Control → Event
its_finish i k d = record { time = d.instant + (station d.network k).takes; kind = Finishing i k }

module _ (i k : ℕ) where
  started_follows : Follows (machine-started i k) Events
  started_follows = record { cut = cut_by; stop = λ m. refl; entries = entries_by }
    where
      cut_by : (r : Result ℕ Refusal) (m : Machine) (c : Option ℕ) → machine-started i k r (with_cut m c) ≡ with_cut (machine-started i k r m) c
      cut_by (Ok n) m c = refl
      cut_by (Err f) m c = refl

      entries_by : (m : Machine) (s : StoreName) → entries_in (machine-started i k (Err NoCell) m) s ≡ entries_in m s
      entries_by m Events = refl
      entries_by m Orders = refl

  waited_follows : Follows (waited i k) Orders
  waited_follows = record { cut = cut_by; stop = λ m. refl; entries = entries_by }
    where
      turned_by : (b : Bool) (f : Refusal) (m : Machine) (c : Option ℕ) → turned_away b i k f (with_cut m c) ≡ with_cut (turned_away b i k f m) c
      turned_by true f m c = refl
      turned_by false f m c = refl

      cut_by : (r : Result ℕ Refusal) (m : Machine) (c : Option ℕ) → waited i k r (with_cut m c) ≡ with_cut (waited i k r m) c
      cut_by (Ok n) m c = refl
      cut_by (Err f) m c = turned_by (at_limit f) f m c

      entries_by : (m : Machine) (s : StoreName) → entries_in (waited i k (Err NoCell) m) s ≡ entries_in m s
      entries_by m Events = refl
      entries_by m Orders = refl

  module _ (d : Control) (m : Meaning Event) (l : Meaning LineEntry) (ps : List Record) (i-is : IsOrder i) (k-is : IsStation k) (h : Fit (simulation d m l ps)) where
    abbrev a : Simulation
    a = simulation d m l ps

    module _ (m2 : Meaning Event) where
      events_put : (r : Result ℕ Refusal) → Puts event_le m 0 (its_finish i k d) r m2 → Each EventFit m2.state
      events_put r p = subst (Each EventFit) (sym p.after) (each_put EventFit event_le m.state 0 _ r (λ n. (i-is, k-is)) h.events)

      pub start_accepted : (n : ℕ) → d.used < length ps → (station d.network k).busy < 8 → Puts event_le m 0 (its_finish i k d) (Ok n) m2 → Call (start i k) 1 a (simulation (started i k n d) m2 l (noted (Start i k) d ps))
      start_accepted n lt busy p =
          let b : Simulation = simulation (started i k n d) m2 l (noted (Start i k) d ps) in
          record {
            fit = record { network = fit_occupied k (marked i (InService k n) d.network) busy (fit_marked i (InService k n) d.network k-is h.network); instant = h.instant; end = h.end; events = events_put (Ok n) p; lines = h.lines };
            few = le_refl _;
            outcome = outcome_event_put (machine-started i k) (finish_event i k) a b (its_finish i k d) (Ok n) (record {
              follows = started_follows;
              blind = λ w c. refl;
              element = λ t. refl;
              inside = h.events.queues;
              puts = p;
              same = λ t. machine_noted (with_network d (occupied k (marked i (InService k n) d.network))) m2 l ps (Start i k) t lt;
              lines = refl;
              written = written_noted a b (record { at = d.instant; kind = Start i k }) refl refl;
            });
          }

      pub start_refused : (f : Refusal) → Puts event_le m 0 (its_finish i k d) (Err f) m2 → Call (start i k) 1 a (simulation (stranded i (failed f Events d)) m2 l ps)
      start_refused f p =
          let b : Simulation = simulation (stranded i (failed f Events d)) m2 l ps in
          record {
            fit = record { network = fit_marked i Stranded d.network tt h.network; instant = h.instant; end = h.end; events = events_put (Err f) p; lines = h.lines };
            few = omega arith;
            outcome = outcome_event_put (machine-started i k) (finish_event i k) a b (its_finish i k d) (Err f) (record {
              follows = started_follows;
              blind = λ w c. refl;
              element = λ t. refl;
              inside = h.events.queues;
              puts = p;
              same = λ t. refl;
              lines = refl;
              written = written_kept a b refl refl;
            });
          }

    module _ (l2 : Meaning LineEntry) where
      lines_put : (r : Result ℕ Refusal) → Puts line_le l k (line_entry d.network i) r l2 → Each LineFit l2.state
      lines_put r p = subst (Each LineFit) (sym p.after) (each_put LineFit line_le l.state k _ r (λ n. i-is) h.lines)

      pub wait_accepted : (n : ℕ) → d.used < length ps → Puts line_le l k (line_entry d.network i) (Ok n) l2 → Call (wait i k) 1 a (simulation (queued i n d) m l2 (noted (Wait i k) d ps))
      wait_accepted n lt p =
          let b : Simulation = simulation (queued i n d) m l2 (noted (Wait i k) d ps) in
          record {
            fit = record { network = fit_marked i (Waiting n) d.network tt h.network; instant = h.instant; end = h.end; events = h.events; lines = lines_put (Ok n) p };
            few = le_refl _;
            outcome = outcome_line_put (waited i k) k (its_entry i) a b (line_entry d.network i) (Ok n) (record {
              follows = waited_follows;
              blind = λ w c. refl;
              element = λ t. refl;
              inside = h.lines.queues;
              puts = p;
              same = λ t. machine_noted (with_network d (marked i (Waiting n) d.network)) m l2 ps (Wait i k) t lt;
              events = refl;
              written = written_noted a b (record { at = d.instant; kind = Wait i k }) refl refl;
            });
          }

      turned : (f : Refusal) (x : Bool) (t : Earlier) → x ≡ at_limit f → turned_away x i k f (with_lines (machine_of t a) (store_of l2 t.takes.lines)) ≡ waited i k (Err f) (with_lines (machine_of t a) (store_of l2 t.takes.lines))
      turned f x t is = ap (λ z. turned_away z i k f (with_lines (machine_of t a) (store_of l2 t.takes.lines))) is

      pub wait_turned : (f : Refusal) → true ≡ at_limit f → d.used < length ps → Puts line_le l k (line_entry d.network i) (Err f) l2 → Call (wait i k) 1 a (simulation (sent_away i d) m l2 (noted (Away i k) d ps))
      wait_turned f is lt p =
          let b : Simulation = simulation (sent_away i d) m l2 (noted (Away i k) d ps) in
          record {
            fit = record { network = fit_marked i is-away d.network tt h.network; instant = h.instant; end = h.end; events = h.events; lines = lines_put (Err f) p };
            few = le_refl _;
            outcome = outcome_line_put (waited i k) k (its_entry i) a b (line_entry d.network i) (Err f) (record {
              follows = waited_follows;
              blind = λ w c. refl;
              element = λ t. refl;
              inside = h.lines.queues;
              puts = p;
              same = λ t. machine_noted (with_network d (marked i is-away d.network)) m l2 ps (Away i k) t lt ∙ turned f true t is;
              events = refl;
              written = written_noted a b (record { at = d.instant; kind = Away i k }) refl refl;
            });
          }

      pub wait_refused : (f : Refusal) → false ≡ at_limit f → Puts line_le l k (line_entry d.network i) (Err f) l2 → Call (wait i k) 1 a (simulation (stranded i (failed f Orders d)) m l2 ps)
      wait_refused f is p =
          let b : Simulation = simulation (stranded i (failed f Orders d)) m l2 ps in
          record {
            fit = record { network = fit_marked i Stranded d.network tt h.network; instant = h.instant; end = h.end; events = h.events; lines = lines_put (Err f) p };
            few = omega arith;
            outcome = outcome_line_put (waited i k) k (its_entry i) a b (line_entry d.network i) (Err f) (record {
              follows = waited_follows;
              blind = λ w c. refl;
              element = λ t. refl;
              inside = h.lines.queues;
              puts = p;
              same = λ t. turned f false t is;
              events = refl;
              written = written_kept a b refl refl;
            });
          }
