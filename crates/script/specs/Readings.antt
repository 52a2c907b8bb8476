-- A line of a script before its form is applied: it is too long, or none of the shapes, or it tells a form.
use Rattle.std.specs.Prelude.{ℕ, Bool, true, false, List, length, Some, None, Ok, Err, Option, Result, nat_lt}
use Rattle.machine.specs.declared.forms.Form.{Form}
use Rattle.machine.specs.declared.forms.ScriptRefusal.{ScriptRefusal}
use Rattle.machine.specs.declared.forms.ScriptRefusal.TheVariants.{TooLong, Malformed}
use Rattle.machine.specs.Machine.{Machine, refuse}
use Rattle.machine.specs.Forms.{form}
use Rattle.machine.specs.Reading.{read_form}
use Rattle.form_texts.specs.Capping.{told_of}

-- by whether it is too long, and what form it tells
abbrev pub reading_by : Bool → Option Form → Result Form ScriptRefusal
reading_by true f = Err TooLong
reading_by false None = Err Malformed
reading_by false (Some f) = Ok f

-- a line has at most 120 bytes
abbrev pub reading : List ℕ → Result Form ScriptRefusal
reading line = reading_by (nat_lt 120 (length line)) (told_of (read_form line))

-- what the machine does by a reading
abbrev pub applied : Result Form ScriptRefusal → Machine → Machine
applied (Ok f) m = form f m
applied (Err r) m = refuse r m

-- a script has at most 65,536 bytes
abbrev pub too_long : List ℕ → Bool
too_long script = nat_lt 65536 (length script)
