-- Lines by their length and their form, and the machine by them.
use Rattle.std.proofs.Common.{◌≡◌, ℕ, Bool, true, false, ltb, List, length, Some, None, Option, Result, sym, refl, ap, ◌∙◌}
use Rattle.machine.specs.declared.forms.Form.{Form}
use Rattle.machine.specs.declared.forms.ScriptRefusal.{ScriptRefusal}
use Rattle.machine.specs.Machine.{Machine}
use Rattle.machine.specs.Reading.{read_form}
use Rattle.machine.specs.Script.{line_by, read_line}
use Rattle.form_texts.specs.Capping.{told_of}
use Rattle.form_texts.proofs.Ranges.{capped_form}
use Rattle.script.specs.Readings.{reading_by, reading, applied}

-- by a line the machine does what it does by the line's reading
line_applied : (long : Bool) (o : Option Form) (m : Machine) → line_by long o m ≡ applied (reading_by long (told_of o)) m
line_applied true o m = refl
line_applied false None m = refl
line_applied false (Some f) m = sym (capped_form f m)

module _ (line : List ℕ) where
  pub read_applied : (m : Machine) → read_line line m ≡ applied (reading line) m
  read_applied m = line_applied (ltb 120 (length line)) (read_form line) m

  -- so with any reading that is the line's
  pub with_machine : (r : Result Form ScriptRefusal) → r ≡ reading line → (m : Machine) → read_line line m ≡ applied r m
  with_machine r e m = read_applied m ∙ sym (ap (λ x. applied x m) e)
