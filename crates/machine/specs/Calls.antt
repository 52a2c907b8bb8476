-- A list of calls: forms and steps, one after the other.
use Rattle.std.specs.Prelude.{Bool, List, [], ◌∷◌}
use Rattle.machine.specs.declared.forms.Form.{Form}
use Rattle.machine.specs.Machine.{Machine, seq_by, as_is, is_some}
use Rattle.machine.specs.Puts.{stopped}
use Rattle.machine.specs.Step.{step}
use Rattle.machine.specs.Forms.{form}

pub data Call : Type 0 where
  a_form : Form → Call
  a_step : Call

abbrev pub call : Call → Machine → Machine
call (a_form f) = form f
call a_step = step

abbrev pub is_stopped : Machine → Bool
is_stopped m = is_some (stopped m)

-- each call gets what the last one left, refused or not; a stop ends the list
abbrev pub calls : List Call → Machine → Machine
calls [] = as_is
calls (c ∷ cs) = seq_by is_stopped (call c) (calls cs) as_is
