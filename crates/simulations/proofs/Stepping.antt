-- A step: the front event is taken and happens, or nothing is left to do.
use Rattle.std.proofs.Common.{◌≡◌, ℕ, ◌+◌, ◌≤◌, List, Some, None, Ok, Option, Result, sym, refl, ap, ◌∙◌, subst, arith}
use Rattle.elements.specs.declared.events.Event.{Event}
use Rattle.elements.specs.declared.events.EventKind.{EventKind}
use Rattle.elements.specs.declared.lines.LineEntry.{LineEntry}
use Rattle.elements.specs.declared.entries.Entry.{Entry}
use Rattle.elements.specs.Elements.{event_le}
use Rattle.stores.specs.declared.refusals.Refusal.{Refusal}
use Rattle.stores.specs.Meaning.{State, Meaning, list_of}
use Rattle.stores.specs.Calls.{take_after, front}
use Rattle.stores.specs.Promises.{Takes}
use Rattle.machine.specs.declared.records.Record.{Record}
use Rattle.machine.specs.declared.records.Fault.{Fault}
use Rattle.machine.specs.declared.records.StoreName.{StoreName}
use Rattle.machine.specs.declared.records.StoreName.TheVariants.{Events, Orders}
use Rattle.machine.specs.Machine.{Machine, bounds_of, with_cut, with_events, with_instant, as_is}
use Rattle.machine.specs.Step.{react, step, step_by, take_event, due_by}
use Rattle.outcomes.specs.Simulation.{Control, Simulation, Earlier, Takes as Taken, and_takes, machine_of, cells}
use Rattle.outcomes.specs.Outcomes.{Counted}
use Rattle.outcomes.proofs.Onwards.{outcome_onward, outcome_none}
use Rattle.simulations.specs.Conditions.{Fit}
use Rattle.simulations.specs.Writes.{simulation}
use Rattle.simulations.specs.Calls.{Call, due_in}
use Rattle.simulations.proofs.Writing.{written_kept}
use Rattle.simulations.proofs.Entering.{outcome_as, took, took_one}

-- at another instant
abbrev pub at_instant : Control → ℕ → Control
at_instant d i = record { instant = i; end = d.end; network = d.network; refusal = d.refusal; fault = d.fault; used = d.used }

abbrev pub one_event : Taken
one_event = record { events = 1; lines = 0 }

-- what is due is in front
pub record Due (m : State Event) : Type 0 where
  pub entry : Entry Event
  pub first : front (list_of m 0) ≡ Some entry

due_parts : (m : State Event) (f : Option Fault) (t : Option ℕ) (o : Option (Entry Event)) (x : Event) → front (list_of m 0) ≡ o → due_by f t o ≡ Some x → Due m
due_parts m (Some f) t o x q h = absurd (let z : ◌≡◌ {A = ℕ} 0 1 = cc in omega arith)
due_parts m None None o x q h = absurd (let z : ◌≡◌ {A = ℕ} 0 1 = cc in omega arith)
due_parts m None (Some t) None x q h = absurd (let z : ◌≡◌ {A = ℕ} 0 1 = cc in omega arith)
due_parts m None (Some t) (Some e) x q h = record { entry = e; first = q }

module _ (d : Control) (m : Meaning Event) (l : Meaning LineEntry) (ps : List Record) (h : Fit (simulation d m l ps)) (none : d.refusal ≡ None) where
  abbrev a : Simulation
  a = simulation d m l ps

  pub due_is : (x : Event) → due_in a ≡ Some x → Due m.state
  due_is x e = due_parts m.state d.fault d.end (front (list_of m.state 0)) x refl e

  -- what a take answers then
  pub took_due : (x : Event) (e : due_in a ≡ Some x) (r : Result (Option (Entry Event)) Refusal) (m2 : Meaning Event) → Takes event_le m 0 r m2 → Takes event_le m 0 (Ok (Some (due_is x e).entry)) m2
  took_due x e r m2 p = subst (λ z. Takes event_le m 0 z m2) (p.answer ∙ ap Ok (due_is x e).first) p

  stepping : (o : Option Event) → due_in a ≡ o → (t : Earlier) (c : Option ℕ) → step (with_cut (machine_of t a) c) ≡ step_by o (with_cut (machine_of t a) c)
  stepping o e t c = ap (λ z. step_by z (with_cut (machine_of t (simulation (record { instant = d.instant; end = d.end; network = d.network; refusal = None; fault = d.fault; used = d.used }) m l ps)) c)) e ∙ ap (λ r. step_by o (with_cut (machine_of t (simulation (record { instant = d.instant; end = d.end; network = d.network; refusal = r; fault = d.fault; used = d.used }) m l ps)) c)) (sym none)

  -- nothing is left to do
  pub step_rests : due_in a ≡ None → Call step 9 a a
  step_rests e = record { fit = h; few = omega arith; outcome = outcome_as step as_is a a (stepping None e) (outcome_none a) }

  module _ (x : Event) (e : due_in a ≡ Some x) (y : Entry Event) (m2 : Meaning Event) (p : Takes event_le m 0 (Ok (Some y)) m2) where
    abbrev b : Simulation
    b = simulation (at_instant d x.time) m2 l ps

    is_first : Some y ≡ front (list_of m.state 0)
    is_first = took event_le m m2 0 (omega arith) (Some y) p

    taken_cells : (s : StoreName) → cells b s ≡ cells a s
    taken_cells Events = ap (λ f. f.cells) p.fixed
    taken_cells Orders = refl

    taken_counted : Counted one_event a b
    taken_counted Events = omega (arith, took_one event_le m m2 0 (omega arith) y p, ap (λ s. s.next) p.after)
    taken_counted Orders = omega arith

    -- the events after the take are the machine's
    happens : (t : Earlier) (c : Option ℕ) → with_cut (machine_of (and_takes t one_event) b) c ≡ with_instant (take_event (with_cut (machine_of t a) c)) x.time
    happens t c =
        let q : m2.state ≡ take_after m.state 0 (Ok (front (list_of m.state 0))) = p.after ∙ ap (λ z. take_after m.state 0 (Ok z)) is_first in
        let u : t.takes.lines + 0 ≡ t.takes.lines = omega arith in
        ap (λ (n : ℕ). with_cut (machine_of (record { records = t.records; takes = record { events = t.takes.events + 1; lines = n } }) b) c) u
        ∙ ap (λ (s : State Event). with_instant (with_events (with_cut (machine_of t a) c) (record { state = s; bounds = bounds_of m2.fixed; taken = t.takes.events + 1 })) x.time) q
        ∙ ap (λ f. with_instant (with_events (with_cut (machine_of t a) c) (record { state = take_after m.state 0 (Ok (front (list_of m.state 0))); bounds = bounds_of f; taken = t.takes.events + 1 })) x.time) p.fixed

    pub step_happens : (z : Simulation) → Call (react x.kind) 9 b z → Call step 9 a z
    step_happens z q = record {
      fit = q.fit;
      few = q.few;
      outcome = outcome_onward step (react x.kind) a b z (record {
        takes = one_event;
        same = λ t c. stepping (Some x) e t c ∙ ap (react x.kind) (sym (happens t c));
        cells = taken_cells;
        counted = taken_counted;
        written = written_kept a b refl refl;
      }) q.outcome;
    }

-- at most so many records
pub few_more : (f : Machine → Machine) (n k : ℕ) (a b : Simulation) → n ≤ k → Call f n a b → Call f k a b
few_more f n k a b le h = record { fit = h.fit; few = omega (arith, h.few, le); outcome = h.outcome }

-- an event of that kind
pub react_as : (k x : EventKind) (n : ℕ) (a b : Simulation) → k ≡ x → n ≤ 9 → Call (react x) n a b → Call (react k) 9 a b
react_as k x n a b e le h = subst (λ z. Call (react z) 9 a b) (sym e) (few_more (react x) n 9 a b le h)
