-- One step more of a run.
use Rattle.std.proofs.Common.{◌≡◌, ℕ, suc, ◌+◌, ◌⊎◌, List, [], ◌++◌, take, Some, None, Option, sym, refl, ap, ◌∙◌, inl, inr, arith}
use Rattle.std.proofs.lemmas.List.{append_assoc, append-nil}
use Rattle.elements.specs.declared.events.Event.{Event}
use Rattle.stores.specs.Meaning.{list_of}
use Rattle.stores.specs.Calls.{front}
use Rattle.machine.specs.declared.forms.ScriptRefusal.{ScriptRefusal}
use Rattle.machine.specs.declared.records.Record.{Record}
use Rattle.machine.specs.declared.records.Fault.{Fault}
use Rattle.machine.specs.declared.records.StoreName.{StoreName}
use Rattle.machine.specs.declared.records.StoreName.TheVariants.{Events, Orders}
use Rattle.machine.specs.Machine.{Machine, with_cut}
use Rattle.machine.specs.Puts.{stopped, stopped_by}
use Rattle.machine.specs.Step.{due_by, due_event, step, step_by, steps}
use Rattle.outcomes.specs.Simulation.{Simulation, Takes, Earlier, machine_of, and_takes, store_of, cells, uses, issued}
use Rattle.outcomes.specs.Outcomes.{Agreed, Departed}
use Rattle.outcomes.proofs.Cells.{later_none}
use Rattle.simulations.specs.Calls.{due_in}
use Rattle.whole_runs.specs.Runs.{Run, RunAgreed, RunDeparted}
use Rattle.whole_runs.specs.Records.{over}
use Rattle.whole_runs.proofs.Going.{Going, going_ends, going_on, going_departs, agreed_moved, departed_moved}
use Rattle.whole_runs.proofs.Running.{steps_rest, steps_more, stopped_rests}

-- The outcome of a step, seen over the records of the run: vs has the records that were written after the first u.

module _ (vs : List Record) (u : ℕ) (a b : Simulation) (fresh : a.control.used ≡ 0) (more : take (u + b.control.used) vs ≡ take u vs ++ take b.control.used b.places) where
  abbrev before : Earlier → Earlier
  before t = record { records = t.records ++ take u vs; takes = t.takes }

  abbrev at_records : Earlier → Simulation → List Record → Machine
  at_records t s rs = record { instant = s.control.instant; end = s.control.end; network = s.control.network; events = store_of s.events t.takes.events; lines = store_of s.lines t.takes.lines; records = rs; refusal = s.control.refusal; fault = s.control.fault; cut = None }

  begins : (t : Earlier) → machine_of t (over vs u a) ≡ machine_of (before t) a
  begins t = ap (at_records t a) (sym (ap (λ n. (t.records ++ take u vs) ++ take n a.places) fresh ∙ append-nil (t.records ++ take u vs)))

  ends : (t : Earlier) (x : Takes) → machine_of (and_takes t x) (over vs (u + b.control.used) b) ≡ machine_of (and_takes (before t) x) b
  ends t x = ap (at_records (and_takes t x) b) (ap (λ rs. t.records ++ rs) more ∙ sym (append_assoc t.records (take u vs) (take b.control.used b.places)))

  over_cells : (n : ℕ) (z : Simulation) (s : StoreName) → cells (over vs n z) s ≡ cells z s
  over_cells n z Events = refl
  over_cells n z Orders = refl

  over_uses : (n : ℕ) (z : Simulation) (s : StoreName) → uses (over vs n z) s ≡ uses z s
  over_uses n z Events = refl
  over_uses n z Orders = refl

  over_issued : (n : ℕ) (z : Simulation) (s : StoreName) → issued (over vs n z) s ≡ issued z s
  over_issued n z Events = refl
  over_issued n z Orders = refl

  pub agreed_over : (f : Machine → Machine) → Agreed f a b → Agreed f (over vs u a) (over vs (u + b.control.used) b)
  agreed_over f p = agreed_moved f a b (over vs u a) (over vs (u + b.control.used) b) before begins ends (over_cells u a) (over_uses u a) (over_issued u a) (over_uses (u + b.control.used) b) (over_issued (u + b.control.used) b) refl p

  pub departed_over : (f : Machine → Machine) → Departed f a b → Departed f (over vs u a) (over vs (u + b.control.used) b)
  departed_over f p = departed_moved f a b (over vs u a) (over vs (u + b.control.used) b) before begins ends (over_cells u a) (over_uses u a) (over_issued u a) (over_uses (u + b.control.used) b) (over_issued (u + b.control.used) b) refl p

  pub cells_over : ((s : StoreName) → cells b s ≡ cells a s) → (s : StoreName) → cells (over vs (u + b.control.used) b) s ≡ cells (over vs u a) s
  cells_over h s = over_cells (u + b.control.used) b s ∙ h s ∙ sym (over_cells u a s)

-- what is left: so many steps
abbrev pub steps_left : ℕ → ℕ → Run
steps_left k l = λ m. (steps k m, l)

-- a departure is told by a fault
departs_faulted : (r : Option ScriptRefusal) (f : Option Fault) (s : StoreName) → r ≡ None → f ≡ None → stopped_by r f ≡ Some s → ⊥
departs_faulted (Some r) f s e g h = absurd (let z : ◌≡◌ {A = ℕ} 0 1 = cc in omega arith)
departs_faulted None (Some f) s e g h = absurd (let z : ◌≡◌ {A = ℕ} 0 1 = cc in omega arith)
departs_faulted None None s e g h = absurd (let z : ◌≡◌ {A = ℕ} 0 1 = cc in omega arith)

stop_faulted : (r : Option ScriptRefusal) (f : Option Fault) (s : StoreName) → r ≡ None → stopped_by r f ≡ Some s → (x : Fault) × (f ≡ Some x)
stop_faulted (Some r) f s e h = absurd (let z : ◌≡◌ {A = ℕ} 0 1 = cc in omega arith)
stop_faulted None None s e h = absurd (let z : ◌≡◌ {A = ℕ} 0 1 = cc in omega arith)
stop_faulted None (Some x) s e h = (x, refl)

module _ (F : Run) (l : ℕ) (A B D : Simulation) (b-calm : B.control.refusal ≡ None) (d-calm : D.control.refusal ≡ None) (same_cells : (s : StoreName) → cells D s ≡ cells B s) where
  stays_on : (k : ℕ) (t : Earlier) (c : Option ℕ) (s : StoreName) → stopped (step (with_cut (machine_of t B) c)) ≡ Some s → steps k (step (with_cut (machine_of t B) c)) ≡ step (with_cut (machine_of t B) c)
  stays_on k t c s h = stopped_rests k (with_cut (machine_of t B) c) s h

  rests : (k : ℕ) → due_in D ≡ None → (t : Earlier) (c : Option ℕ) → steps_left k l (with_cut (machine_of t D) c) ≡ (with_cut (machine_of t D) c, l)
  rests k e t c = ap (λ m. (m, l)) (steps_rest k (with_cut (machine_of t D) c) e)

  none_due : (x : Fault) → D.control.fault ≡ Some x → due_in D ≡ None
  none_due x e = ap (λ f. due_by f D.control.end (front (list_of D.events.state 0))) e

  module _ (k : ℕ) (x : Event) (due : due_in B ≡ Some x) (p : Going F (steps_left (suc k) l) A B) where
    onward : (t : Earlier) (c : Option ℕ) → steps_left (suc k) l (with_cut (machine_of t B) c) ≡ steps_left k l (step (with_cut (machine_of t B) c))
    onward t c = ap (λ m. (m, l)) (steps_more k (with_cut (machine_of t B) c) x due)

    -- the run goes on
    pub run_on : D.control.fault ≡ None → Agreed step B D ⊎ Departed step B D → Going F (steps_left k l) A D
    run_on f (inl q) = going_on F (steps_left (suc k) l) A B p step (steps_left k l) D onward (stays_on k) same_cells q
    run_on f (inr q) = absurd (departs_faulted _ _ q.store d-calm f q.stop)

    -- or a fault has ended it
    pub run_faults : (y : Fault) → D.control.fault ≡ Some y → Agreed step B D ⊎ Departed step B D → RunAgreed F A D l ⊎ RunDeparted F A D l
    run_faults y f (inl q) = inl (going_ends F (steps_left k l) A D (going_on F (steps_left (suc k) l) A B p step (steps_left k l) D onward (stays_on k) same_cells q) l (rests k (none_due y f)))
    run_faults y f (inr q) = inr (going_departs F (steps_left (suc k) l) A B p step (steps_left k l) D onward (stays_on k) l q (λ t. rests k (none_due y f) t (Some 0)))

  -- nothing was due: the step changed nothing
  module _ (k : ℕ) (due : due_in B ≡ None) (p : Going F (steps_left k l) A B) where
    nothing_done : (t : Earlier) (c : Option ℕ) → step (with_cut (machine_of t B) c) ≡ with_cut (machine_of t B) c
    nothing_done t c = ap (λ o. step_by o (with_cut (record { instant = B.control.instant; end = B.control.end; network = B.control.network; events = store_of B.events t.takes.events; lines = store_of B.lines t.takes.lines; records = (machine_of t B).records; refusal = None; fault = B.control.fault; cut = None }) c)) due ∙ ap (λ r. with_cut (record { instant = B.control.instant; end = B.control.end; network = B.control.network; events = store_of B.events t.takes.events; lines = store_of B.lines t.takes.lines; records = (machine_of t B).records; refusal = r; fault = B.control.fault; cut = None }) c) (sym b-calm)

    stays_done : (t : Earlier) (c : Option ℕ) → steps_left k l (with_cut (machine_of t B) c) ≡ steps_left k l (step (with_cut (machine_of t B) c))
    stays_done t c = ap (λ m. (steps k m, l)) (sym (nothing_done t c))

    still_none : Agreed step B D → due_in D ≡ None
    still_none q =
        let t : Earlier = record { records = []; takes = record { events = 0; lines = 0 } } in
        ap due_event (sym (q.same t None) ∙ ap (λ c. step (with_cut (machine_of t B) c)) (later_none q.puts) ∙ nothing_done t None) ∙ due

    pub run_ends : Agreed step B D ⊎ Departed step B D → RunAgreed F A D l ⊎ RunDeparted F A D l
    run_ends (inl q) = inl (going_ends F (steps_left k l) A D (going_on F (steps_left k l) A B p step (steps_left k l) D stays_done (stays_on k) same_cells q) l (rests k (still_none q)))
    run_ends (inr q) =
        let f = stop_faulted _ _ q.store d-calm q.stop in
        inr (going_departs F (steps_left k l) A B p step (steps_left k l) D stays_done (stays_on k) l q (λ t. rests k (none_due f.0 f.1) t (Some 0)))

-- After so many steps nothing is due: kept from step to step.

pub record EndsWithin (k : ℕ) (b : Simulation) : Type 0 where
  pub earlier : Earlier
  pub none : due_event (steps k (machine_of earlier b)) ≡ None

pub ends_now : (b : Simulation) → EndsWithin 0 b → due_in b ≡ None
ends_now b h = h.none

-- the next step begins with the places that the last one was lent, none of them written
pub ends_more : (k : ℕ) (x : Event) (a b c : Simulation) → due_in a ≡ Some x → b.control.fault ≡ None → b.control.refusal ≡ None → Agreed step a b ⊎ Departed step a b → ((t : Earlier) → machine_of (record { records = t.records ++ take b.control.used b.places; takes = t.takes }) c ≡ machine_of t b) → EndsWithin (suc k) a → EndsWithin k c
ends_more k x a b c due f r (inr q) next h = absurd (departs_faulted _ _ q.store r f q.stop)
ends_more k x a b c due f r (inl q) next h =
    let t = and_takes h.earlier q.takes in
    record {
      earlier = record { records = t.records ++ take b.control.used b.places; takes = t.takes };
      none =
          ap (λ m. due_event (steps k m)) (next t ∙ sym (ap (λ o. step (with_cut (machine_of h.earlier a) o)) (sym (later_none q.puts)) ∙ q.same h.earlier None))
          ∙ ap due_event (sym (steps_more k (machine_of h.earlier a) x due))
          ∙ h.none;
    }
