-- A withdrawal: the order's own state decides.
use Rattle.std.proofs.Common.{◌≡◌, ℕ, ◌<◌, List, length, Option, Result, sym, refl, ap, ◌∙◌, arith}
use Rattle.elements.specs.declared.events.Event.{Event}
use Rattle.elements.specs.declared.lines.LineEntry.{LineEntry}
use Rattle.elements.specs.Elements.{event_le, line_le}
use Rattle.stores.specs.declared.refusals.Refusal.{Refusal}
use Rattle.stores.specs.Meaning.{Meaning}
use Rattle.stores.specs.Promises.{Cancels, Unchanged}
use Rattle.machine.specs.declared.networks.OrderState.{OrderState}
use Rattle.machine.specs.declared.networks.OrderState.TheVariants.{Waiting, InService, Withdrawn as is-withdrawn}
use Rattle.machine.specs.declared.records.RecordKind.TheVariants.{Withdrawn, Missed}
use Rattle.machine.specs.declared.records.Record.{Record}
use Rattle.machine.specs.Network.{order, marked, freed}
use Rattle.machine.specs.Machine.{Machine, with_cut, with_network as network-set, tell}
use Rattle.machine.specs.Step.{start_front, withdraw, withdraw_by}
use Rattle.outcomes.specs.Simulation.{Control, Simulation, Earlier, no_takes, machine_of}
use Rattle.outcomes.specs.Outcomes.{Outcome}
use Rattle.outcomes.proofs.Onwards.{outcome_onward, outcome_quiet, no_takes_more}
use Rattle.simulations.specs.Conditions.{Fit, EventFit, LineFit}
use Rattle.simulations.specs.Writes.{simulation, with_network, one_more, noted, unqueued, interrupted}
use Rattle.simulations.proofs.Fitting.{fit_marked, fit_freed}
use Rattle.simulations.proofs.Writing.{machine_noted, written_noted, kept_cells, kept_counted}
use Rattle.simulations.specs.Calls.{Call}
use Rattle.simulations.proofs.Cancelling.{each_cancelled, line_cancelled, line_cells, line_counted, event_cancelled, event_cells, event_counted}

module _ (i : ℕ) (d : Control) (m : Meaning Event) (l : Meaning LineEntry) (ps : List Record) (h : Fit (simulation d m l ps)) (lt : d.used < length ps) where
  abbrev a : Simulation
  a = simulation d m l ps

  decides : (st : OrderState) → (order d.network i).state ≡ st → (t : Earlier) (c : Option ℕ) → withdraw i (with_cut (machine_of t a) c) ≡ withdraw_by st i (with_cut (machine_of t a) c)
  decides st e t c = ap (λ o. withdraw_by o i (with_cut (machine_of t a) c)) e

  -- its entry leaves the line
  pub withdraw_waiting : (s : ℕ) (r : Result ℕ Refusal) (l2 : Meaning LineEntry) → (order d.network i).state ≡ Waiting s → Cancels line_le l s r l2 → Unchanged r l l2 → Call (withdraw i) 2 a (simulation (unqueued i d) m l2 (noted (Withdrawn i) d ps))
  withdraw_waiting s r l2 e c u =
      let b : Simulation = simulation (unqueued i d) m l2 (noted (Withdrawn i) d ps) in
      let n = marked i is-withdrawn d.network in
      record {
        fit = record { network = fit_marked i is-withdrawn d.network tt h.network; instant = h.instant; end = h.end; events = h.events; lines = each_cancelled line_le l s r l2 c LineFit h.lines };
        few = omega arith;
        outcome = outcome_quiet (withdraw i) a b (record {
          takes = no_takes;
          same = λ t q.
              decides (Waiting s) e t q
              ∙ sym (ap (λ w. with_cut w q) (machine_noted (with_network d n) m l2 ps (Withdrawn i) t lt) ∙ ap (λ w. tell (Withdrawn i) (network-set (with_cut w q) n)) (line_cancelled d d m l ps ps s r l2 c t))
              ∙ ap (λ v. with_cut (machine_of v b) q) (no_takes_more t);
          cells = line_cells d (unqueued i d) m l ps (noted (Withdrawn i) d ps) s r l2 c;
          counted = line_counted d (unqueued i d) m l ps (noted (Withdrawn i) d ps) s r l2 c u;
          written = written_noted a b (record { at = d.instant; kind = Withdrawn i }) refl refl;
        });
      }

  -- any other order is missed
  pub withdraw_missed : (st : OrderState) → (order d.network i).state ≡ st → ((w : Machine) → withdraw_by st i w ≡ tell (Missed i) w) → Call (withdraw i) 2 a (simulation (one_more d) m l (noted (Missed i) d ps))
  withdraw_missed st e is =
      let b : Simulation = simulation (one_more d) m l (noted (Missed i) d ps) in
      record {
        fit = record { network = h.network; instant = h.instant; end = h.end; events = h.events; lines = h.lines };
        few = omega arith;
        outcome = outcome_quiet (withdraw i) a b (record {
          takes = no_takes;
          same = λ t q.
              decides st e t q
              ∙ is (with_cut (machine_of t a) q)
              ∙ sym (ap (λ w. with_cut w q) (machine_noted d m l ps (Missed i) t lt))
              ∙ ap (λ v. with_cut (machine_of v b) q) (no_takes_more t);
          cells = kept_cells d (one_more d) m l ps (noted (Missed i) d ps);
          counted = kept_counted d (one_more d) m l ps (noted (Missed i) d ps);
          written = written_noted a b (record { at = d.instant; kind = Missed i }) refl refl;
        });
      }

  -- its finish leaves the events, its bench is free, and the line's front starts
  module _ (k s : ℕ) (r : Result ℕ Refusal) (m2 : Meaning Event) (c : Cancels event_le m s r m2) where
    pub interrupted_fit : Fit (simulation (interrupted i k d) m2 l (noted (Withdrawn i) d ps))
    interrupted_fit = record { network = fit_freed k (marked i is-withdrawn d.network) (fit_marked i is-withdrawn d.network tt h.network); instant = h.instant; end = h.end; events = each_cancelled event_le m s r m2 c EventFit h.events; lines = h.lines }

    pub withdraw_serving : (z : Simulation) → Unchanged r m m2 → (order d.network i).state ≡ InService k s → Outcome (start_front k) (simulation (interrupted i k d) m2 l (noted (Withdrawn i) d ps)) z → Outcome (withdraw i) a z
    withdraw_serving z u e o =
        let b : Simulation = simulation (interrupted i k d) m2 l (noted (Withdrawn i) d ps) in
        let n = freed k (marked i is-withdrawn d.network) in
        outcome_onward (withdraw i) (start_front k) a b z (record {
          takes = no_takes;
          same = λ t q.
              decides (InService k s) e t q
              ∙ sym (ap (λ w. start_front k (with_cut w q)) (machine_noted (with_network d n) m2 l ps (Withdrawn i) t lt ∙ ap (λ w. tell (Withdrawn i) (network-set w n)) (event_cancelled d d m l ps ps s r m2 c t)))
              ∙ ap (λ v. start_front k (with_cut (machine_of v b) q)) (no_takes_more t);
          cells = event_cells d (interrupted i k d) m l ps (noted (Withdrawn i) d ps) s r m2 c;
          counted = event_counted d (interrupted i k d) m l ps (noted (Withdrawn i) d ps) s r m2 c u;
          written = written_noted a b (record { at = d.instant; kind = Withdrawn i }) refl refl;
        }) o
