-- The lines of a script, one after the other.
use Rattle.std.proofs.Common.{◌≡◌, ℕ, ◌+◌, List, ◌∷◌, Some, None, Ok, Err, Option, Result, refl, ap, ◌∙◌, arith}
use Rattle.elements.specs.declared.events.Event.{Event}
use Rattle.elements.specs.Elements.{event_le}
use Rattle.stores.specs.declared.refusals.Refusal.{Refusal}
use Rattle.machine.specs.declared.forms.Form.{Form}
use Rattle.machine.specs.declared.forms.Form.TheVariants.{Station, Order, Withdraw, Close, End}
use Rattle.machine.specs.declared.forms.FormRefusal.{FormRefusal}
use Rattle.machine.specs.declared.forms.ScriptRefusal.{ScriptRefusal}
use Rattle.machine.specs.declared.records.Fault.{Fault}
use Rattle.machine.specs.declared.records.StoreName.{StoreName}
use Rattle.machine.specs.declared.records.StoreName.TheVariants.{Events, Orders}
use Rattle.machine.specs.Machine.{Machine, with_cut, with_events, with_refusal, listed, refuse}
use Rattle.machine.specs.Puts.{Tried, try, stopped_by}
use Rattle.machine.specs.Forms.{form, form_by, form_refusal, accept, announced, ordered, new_order, event_at}
use Rattle.machine.specs.Script.{read_line, read_lines, read_script, run, run_by}
use Rattle.outcomes.specs.Simulation.{Simulation, Earlier, machine_of, and_takes}
use Rattle.outcomes.specs.Outcomes.{Counted}
use Rattle.whole_runs.specs.Runs.{Run, RunAgreed}
use Rattle.whole_runs.proofs.Going.{Going}

never : {A : Type 0} → ◌≡◌ {A = ℕ} 0 1 → A
never z = absurd (omega (arith, z))

-- A form ends no run.

announced_fault : (r : Result ℕ Refusal) (m : Machine) → (announced r m).fault ≡ m.fault
announced_fault (Ok n) m = refl
announced_fault (Err f) m = refl

accept_fault : (f : Form) (m : Machine) → (accept f m).fault ≡ m.fault
accept_fault (Station k b d w n) m = refl
accept_fault (Order i t u v k) m = go (try event_le m.cut m.events 0 _)
  where
    go : (x : Tried Event) → (ordered i (new_order u v k) x.answer (with_cut (with_events m (listed m.events x.state)) x.cut)).fault ≡ m.fault
    go x = by x.answer
      where
        by : (r : Result ℕ Refusal) → (ordered i (new_order u v k) r (with_cut (with_events m (listed m.events x.state)) x.cut)).fault ≡ m.fault
        by (Ok n) = refl
        by (Err f) = refl
accept_fault (Withdraw i t) m = let x : Tried Event = try event_le m.cut m.events 0 (event_at t _ m) in announced_fault x.answer (with_cut (with_events m (listed m.events x.state)) x.cut)
accept_fault (Close k t j) m = let x : Tried Event = try event_le m.cut m.events 0 (event_at t _ m) in announced_fault x.answer (with_cut (with_events m (listed m.events x.state)) x.cut)
accept_fault (End t) m = refl

pub form_fault : (f : Form) (m : Machine) → (form f m).fault ≡ m.fault
form_fault f m = go (form_refusal f m)
  where
    go : (o : Option FormRefusal) → (form_by o f (with_refusal m None)).fault ≡ m.fault
    go None = accept_fault f (with_refusal m None)
    go (Some r) = refl

-- where a form is stopped, it is refused
refused_there : (r : Option ScriptRefusal) (f : Option Fault) (s : StoreName) → f ≡ None → stopped_by r f ≡ Some s → (x : ScriptRefusal) × (r ≡ Some x)
refused_there (Some r) f s e h = (r, refl)
refused_there None None s e h = never cc
refused_there None (Some f) s e h = never cc

not_refused : (r : Option ScriptRefusal) (f : Option Fault) (s : StoreName) → r ≡ None → f ≡ None → stopped_by r f ≡ Some s → ⊥
not_refused (Some r) f s e g h = never cc
not_refused None None s e g h = never cc
not_refused None (Some f) s e g h = never cc

-- What follows the reading: `fin` leaves a refused script.

pub record Finish : Type 0 where
  pub fin : Machine × ℕ → Machine × ℕ
  pub stays : (v : Machine) (l : ℕ) (r : ScriptRefusal) → v.refusal ≡ Some r → fin (v, l) ≡ (v, l)

-- nothing, or the run
pub read_only : Finish
read_only = record { fin = λ r. r; stays = λ v l r e. refl }

pub then_run : Finish
then_run = record { fin = λ r. (run r.0, r.1); stays = λ v l r e. ap (λ o. (run_by o v, l)) e }

-- the lines that are left, the first of which has the number l
abbrev pub lines_left : Finish → ℕ → List (List ℕ) → Run
lines_left k l xs = λ m. k.fin (read_lines l xs m)

abbrev pub whole_script : Finish → List ℕ → Run
whole_script k bs = λ m. k.fin (read_script bs m)

abbrev by_refusal : Option ScriptRefusal → ℕ → List (List ℕ) → Machine → Machine × ℕ
by_refusal None l xs v = read_lines (l + 1) xs v
by_refusal (Some r) l xs v = (v, l)

abbrev after_line : Finish → ℕ → List (List ℕ) → Run
after_line k l xs = λ v. k.fin (by_refusal v.refusal l xs v)

line_first : (k : Finish) (l : ℕ) (x : List ℕ) (xs : List (List ℕ)) (m : Machine) → lines_left k l (x ∷ xs) m ≡ after_line k l xs (read_line x m)
line_first k l x xs m = ap k.fin (go (read_line x m).refusal)
  where
    go : (o : Option ScriptRefusal) → elim o [ None ↦ read_lines (l + 1) xs (read_line x m) | Some r ↦ (read_line x m, l) ] ≡ by_refusal o l xs (read_line x m)
    go None = refl
    go (Some r) = refl

refused_after : (k : Finish) (l : ℕ) (xs : List (List ℕ)) (v : Machine) (r : ScriptRefusal) → v.refusal ≡ Some r → after_line k l xs v ≡ (v, l)
refused_after k l xs v r e = ap (λ o. k.fin (by_refusal o l xs v)) e ∙ k.stays v l r e

accepted_after : (k : Finish) (l : ℕ) (xs : List (List ℕ)) (v : Machine) → v.refusal ≡ None → after_line k l xs v ≡ lines_left k (l + 1) xs v
accepted_after k l xs v e = ap (λ o. k.fin (by_refusal o l xs v)) e

-- A refusal that puts nothing ends the reading.

abbrev pub refused_with : ScriptRefusal → Simulation → Simulation
refused_with r b = record { control = record { instant = b.control.instant; end = b.control.end; network = b.control.network; refusal = Some r; fault = b.control.fault; used = b.control.used }; events = b.events; lines = b.lines; places = b.places }

pub refusal_ends : (F G : Run) (a b : Simulation) (r : ScriptRefusal) (l : ℕ) → Going F G a b → ((t : Earlier) (c : Option ℕ) → G (with_cut (machine_of t b) c) ≡ (refuse r (with_cut (machine_of t b) c), l)) → RunAgreed F a (refused_with r b) l
refusal_ends F G a b r l p e = record {
  puts = p.puts;
  takes = p.takes;
  rooms = p.rooms;
  same = λ t c. p.same t c ∙ e (and_takes t p.takes) c;
  counted = counted_by;
}
  where
    counted_by : Counted p.takes a (refused_with r b)
    counted_by Events = p.counted Events
    counted_by Orders = p.counted Orders

-- a line that tells no form, or a form after the end
pub line_refused : (k : Finish) (l : ℕ) (x : List ℕ) (xs : List (List ℕ)) (r : ScriptRefusal) (m : Machine) → read_line x m ≡ refuse r m → lines_left k l (x ∷ xs) m ≡ (refuse r m, l)
line_refused k l x xs r m e = line_first k l x xs m ∙ ap (after_line k l xs) e ∙ refused_after k l xs (refuse r m) r refl
