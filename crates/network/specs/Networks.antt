-- What draft, running and ended network are to the machine.
use Rattle.std.specs.Prelude.{◌≡◌, ℕ, Bool, true, false, List, [], Some, None, Ok, Err, Option, Result}
use Rattle.elements.specs.declared.events.Event.{Event}
use Rattle.elements.specs.declared.events.EventKind.{EventKind}
use Rattle.elements.specs.declared.lines.LineEntry.{LineEntry}
use Rattle.elements.specs.Elements.{event_le}
use Rattle.stores.specs.declared.refusals.Refusal.{Refusal}
use Rattle.stores.specs.Promises.{Puts}
use Rattle.stores.specs.Meaning.{Meaning}
use Rattle.machine.specs.declared.networks.Network.{Network}
use Rattle.machine.specs.declared.forms.Form.TheVariants.{End as an-end}
use Rattle.machine.specs.declared.forms.FormRefusal.{FormRefusal}
use Rattle.machine.specs.declared.forms.FormRefusal.TheVariants.{Store}
use Rattle.machine.specs.declared.forms.ScriptRefusal.{ScriptRefusal}
use Rattle.machine.specs.declared.records.Record.{Record}
use Rattle.machine.specs.declared.records.Fault.{Fault as RunFault}
use Rattle.machine.specs.declared.records.Progress.{Progress}
use Rattle.machine.specs.declared.records.Progress.TheVariants.{Stepped, Ended as has_ended, Faulted}
use Rattle.machine.specs.Forms.{form}
use Rattle.machine.specs.Closing.{totals}
use Rattle.machine.specs.Text.{end_line, fault_line}
use Rattle.outcomes.specs.Simulation.{Simulation}
use Rattle.outcomes.specs.Outcomes.{Whole}
use Rattle.simulations.specs.Conditions.{Fit}
use Rattle.simulations.specs.Drafts.{draft, Forms}
use Rattle.simulations.specs.Writes.{simulation}
use Rattle.workshop.specs.Workshop.{under_way}
use Rattle.network.specs.declared.Draft.{Draft}
use Rattle.network.specs.declared.Running.{Running}
use Rattle.network.specs.declared.Ended.{Ended}
use Rattle.network.specs.declared.endings.Closing.{Closing}
use Rattle.network.specs.declared.endings.Closing.TheVariants.{End, Fault}

-- with both stores, and why the last line was refused
abbrev pub drafted : Draft → Meaning Event → Meaning LineEntry → Option ScriptRefusal → Simulation
drafted d m l r = draft d.net.now m l r

-- neither store has issued a stamp
pub record Unused (m : Meaning Event) (l : Meaning LineEntry) : Type 0 where
  pub events : m.state.next ≡ 0
  pub lines : l.state.next ≡ 0

-- the event of a form was put, or the store's refusal of it is that of the form
abbrev pub Announcing : ℕ → EventKind → Meaning Event → Result (Unit {0}) FormRefusal → Meaning Event → Type 0
Announcing t x m (Ok u) n = (k : ℕ) × Puts event_le m 0 (record { time = t; kind = x }) (Ok k) n
Announcing t x m (Err r) n = (f : Refusal) × (r ≡ Store f) × Puts event_le m 0 (record { time = t; kind = x }) (Err f) n

-- a running network with both stores and the lent places, of which so many are written
abbrev pub running : Running → ℕ → Meaning Event → Meaning LineEntry → List Record → Simulation
running r n m l ps = simulation (under_way r.net.now r.run n) m l ps

-- the end form was accepted: the run begins, and no step has told anything
pub record Begins (t : ℕ) (d : Draft) (m : Meaning Event) (l : Meaning LineEntry) (r : Running) : Type 0 where
  pub fit : Fit (running r 0 m l [])
  pub whole : (earlier : Option ScriptRefusal) → Whole (form (an-end t)) (drafted d m l earlier) (running r 0 m l [])
  pub not_over : r.over ≡ false

-- it was refused: the draft is given back as it was
abbrev pub Ends : ℕ → Draft → Meaning Event → Meaning LineEntry → Result Running (Draft × FormRefusal) → Type 0
Ends t d m l (Ok r) = Begins t d m l r
Ends t d m l (Err e) = Forms (an-end t) (drafted d m l) (drafted d m l) (Some e.1) × (e.0 ≡ d)

-- a step told the end or a fault
abbrev pub is_over : Progress → Bool
is_over Stepped = false
is_over has_ended = true
is_over Faulted = true

-- An ended network is made of a running one just after that.
pub record Concluded (r : Running) (e : Ended) : Type 0 where
  pub over : r.over ≡ true
  pub network : e.net.now ≡ r.net.now
  pub end : e.end ≡ r.run.end
  pub fault : e.fault ≡ r.run.fault

abbrev pub Concludes : Running → Result Ended Running → Type 0
Concludes r (Ok e) = Concluded r e
Concludes r (Err s) = (r.over ≡ false) × (s ≡ r)

-- What it tells: the end with the orders by state, or the fault; and the line for it.

abbrev pub closing_of : Option RunFault → ℕ → Network → Closing
closing_of None t n = End t (totals n)
closing_of (Some f) t n = Fault f

abbrev pub closing_text : Closing → List ℕ
closing_text (End t x) = end_line t x
closing_text (Fault f) = fault_line f
