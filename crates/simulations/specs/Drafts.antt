-- A network that takes forms, and what a form promises.
use Rattle.std.specs.Prelude.{[], Some, None, Option}
use Rattle.elements.specs.declared.events.Event.{Event}
use Rattle.elements.specs.declared.lines.LineEntry.{LineEntry}
use Rattle.stores.specs.Meaning.{Meaning}
use Rattle.machine.specs.declared.networks.Network.{Network}
use Rattle.machine.specs.declared.forms.Form.{Form}
use Rattle.machine.specs.declared.forms.FormRefusal.{FormRefusal}
use Rattle.machine.specs.declared.forms.ScriptRefusal.{ScriptRefusal}
use Rattle.machine.specs.declared.forms.ScriptRefusal.TheVariants.{Form as form-refused}
use Rattle.machine.specs.Forms.{form, form_refusal}
use Rattle.outcomes.specs.Simulation.{Control, Simulation, Earlier, no_takes, machine_of}
use Rattle.outcomes.specs.Outcomes.{Whole}
use Rattle.simulations.specs.Conditions.{Fit}
use Rattle.simulations.specs.Writes.{simulation}

-- a draft is at the instant 0 and has no records; r is why the last line was refused
abbrev pub draft_control : Network → Option ScriptRefusal → Control
draft_control n r = record { instant = 0; end = None; network = n; refusal = r; fault = None; used = 0 }

abbrev pub draft : Network → Meaning Event → Meaning LineEntry → Option ScriptRefusal → Simulation
draft n m l r = simulation (draft_control n r) m l []

-- nothing happened before
abbrev pub nothing : Earlier
nothing = record { records = []; takes = no_takes }

-- why a form is refused before it reaches the event store, if it is
abbrev pub refused_at_once : Form → Network → Meaning Event → Meaning LineEntry → Option FormRefusal
refused_at_once f n m l = form_refusal f (machine_of nothing (draft n m l None))

-- the refusal as that of a line
abbrev pub as_line : Option FormRefusal → Option ScriptRefusal
as_line None = None
as_line (Some r) = Some (form-refused r)

-- a form leads from a to b, each with the refusal of the last call; r is why it is refused, if it is
pub record Forms (f : Form) (a b : Option ScriptRefusal → Simulation) (r : Option FormRefusal) : Type 0 where
  pub fit : Fit (b None)
  pub whole : (earlier : Option ScriptRefusal) → Whole (form f) (a earlier) (b (as_line r))
