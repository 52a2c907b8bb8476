-- A finished order: its bench is free, the line's front starts, and it goes on, or is stranded where that start ended the
-- run.
use Rattle.std.proofs.Common.{◌≡◌, ℕ, ◌<◌, true, false, List, length, Some, None, sym, refl, ap, ◌∙◌, le_refl}
use Rattle.elements.specs.declared.events.Event.{Event}
use Rattle.elements.specs.declared.lines.LineEntry.{LineEntry}
use Rattle.stores.specs.Meaning.{Meaning}
use Rattle.machine.specs.declared.networks.OrderState.TheVariants.{Done as is-done, Stranded}
use Rattle.machine.specs.declared.records.RecordKind.TheVariants.{Finish, Done}
use Rattle.machine.specs.declared.records.Record.{Record}
use Rattle.machine.specs.declared.records.Fault.{Fault}
use Rattle.machine.specs.Network.{station, marked}
use Rattle.machine.specs.Machine.{with_cut, strand, halted, halted_by}
use Rattle.machine.specs.Step.{start_front, release, free_bench, leave, leave_by, enter, finish}
use Rattle.outcomes.specs.Simulation.{Control, Simulation, Earlier, no_takes, machine_of}
use Rattle.outcomes.specs.Outcomes.{Outcome}
use Rattle.outcomes.proofs.Onwards.{outcome_onward, outcome_quiet, no_takes_more}
use Rattle.outcomes.proofs.Sequences.{outcome_then, outcome_else}
use Rattle.outcomes.proofs.Ends.{ends_halted, tidy_strand}
use Rattle.simulations.specs.Conditions.{Fit}
use Rattle.simulations.specs.Writes.{simulation, with_network, noted, completed, stranded, vacated}
use Rattle.simulations.proofs.Fitting.{fit_marked}
use Rattle.simulations.proofs.Writing.{machine_noted, written_noted, written_kept, kept_uses, kept_issued, kept_cells, kept_counted}
use Rattle.simulations.specs.Calls.{Call}
use Rattle.simulations.proofs.Entering.{outcome_as}

-- a call goes on, or has ended
pub going : (b : Simulation) → b.control.refusal ≡ None → b.control.fault ≡ None → (t : Earlier) → halted (machine_of t b) ≡ false
going b r f t = ap (λ o. halted_by o b.control.fault) r ∙ ap (halted_by None) f

pub over : (b : Simulation) (x : Fault) → b.control.refusal ≡ None → b.control.fault ≡ Some x → (t : Earlier) → halted (machine_of t b) ≡ true
over b x r f t = ap (λ o. halted_by o b.control.fault) r ∙ ap (halted_by None) f

module _ (i k : ℕ) where
  module _ (d : Control) (m : Meaning Event) (l : Meaning LineEntry) (ps : List Record) where
    pub leave_enter : (q : ℕ) (b : Simulation) → (station d.network k).next ≡ Some q → Outcome (enter i q) (simulation d m l ps) b → Outcome (leave i k) (simulation d m l ps) b
    leave_enter q b e = outcome_as (leave i k) (enter i q) (simulation d m l ps) b (λ t c. ap (λ o. leave_by o i (with_cut (machine_of t (simulation d m l ps)) c)) e)

    pub leave_done : (station d.network k).next ≡ None → Fit (simulation d m l ps) → d.used < length ps → Call (leave i k) 1 (simulation d m l ps) (simulation (completed i d) m l (noted (Done i) d ps))
    leave_done z h lt =
        let d1 : Control = with_network d (marked i is-done d.network) in
        let a : Simulation = simulation d m l ps in
        let b : Simulation = simulation (completed i d) m l (noted (Done i) d ps) in
        record {
          fit = record { network = fit_marked i is-done d.network tt h.network; instant = h.instant; end = h.end; events = h.events; lines = h.lines };
          few = le_refl _;
          outcome = outcome_quiet (leave i k) a b (record {
            takes = no_takes;
            same = λ t c. ap (λ o. leave_by o i (with_cut (machine_of t a) c)) z ∙ sym (ap (λ w. with_cut w c) (machine_noted d1 m l ps (Done i) t lt)) ∙ ap (λ v. with_cut (machine_of v b) c) (no_takes_more t);
            cells = kept_cells d (completed i d) m l ps (noted (Done i) d ps);
            counted = kept_counted d (completed i d) m l ps (noted (Done i) d ps);
            written = written_noted a b (record { at = d.instant; kind = Done i }) refl refl;
          });
        }

    -- the record is written and the bench is free
    pub vacated_on : (z : Simulation) → d.used < length ps → Outcome (start_front k) (simulation (vacated k d) m l (noted (Finish i k) d ps)) z → Outcome (release i k) (simulation d m l ps) z
    vacated_on z lt =
        let a : Simulation = simulation d m l ps in
        let b : Simulation = simulation (vacated k d) m l (noted (Finish i k) d ps) in
        outcome_onward (release i k) (start_front k) a b z (record {
          takes = no_takes;
          same = λ t c. ap (λ w. start_front k (free_bench k (with_cut w c))) (sym (machine_noted d m l ps (Finish i k) t lt)) ∙ ap (λ v. start_front k (with_cut (machine_of v b) c)) (no_takes_more t);
          cells = kept_cells d (vacated k d) m l ps (noted (Finish i k) d ps);
          counted = kept_counted d (vacated k d) m l ps (noted (Finish i k) d ps);
          written = written_noted a b (record { at = d.instant; kind = Finish i k }) refl refl;
        })

  -- the order goes on
  pub finish_on : (a b z : Simulation) → Outcome (release i k) a b → b.control.refusal ≡ None → b.control.fault ≡ None → Outcome (leave i k) b z → Outcome (finish i k) a z
  finish_on a b z p r f q = outcome_then halted (release i k) (leave i k) (strand i) ends_halted (tidy_strand i) a b z p (going b r f) q

  -- the run has ended, and the order is stranded
  pub finish_stranded : (a : Simulation) (d : Control) (m : Meaning Event) (l : Meaning LineEntry) (ps : List Record) (x : Fault) → Outcome (release i k) a (simulation d m l ps) → d.refusal ≡ None → d.fault ≡ Some x → Outcome (finish i k) a (simulation (stranded i d) m l ps)
  finish_stranded a d m l ps x p r f =
      let b : Simulation = simulation d m l ps in
      outcome_else halted (release i k) (leave i k) (strand i) ends_halted (tidy_strand i) a b (simulation (stranded i d) m l ps) (over b x r f) (record {
        same = λ t. refl;
        uses = kept_uses d (stranded i d) m l ps ps;
        issued = kept_issued d (stranded i d) m l ps ps;
        cells = kept_cells d (stranded i d) m l ps ps;
        written = written_kept (simulation d m l ps) (simulation (stranded i d) m l ps) refl refl;
      }) p

  pub stranded_fit : (d : Control) (m : Meaning Event) (l : Meaning LineEntry) (ps : List Record) → Fit (simulation d m l ps) → Fit (simulation (stranded i d) m l ps)
  stranded_fit d m l ps h = record { network = fit_marked i Stranded d.network tt h.network; instant = h.instant; end = h.end; events = h.events; lines = h.lines }
