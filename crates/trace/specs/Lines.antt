-- A line of a trace, as it is written into a lent buffer.
use Rattle.std.specs.Prelude.{◌≡◌, ℕ, ◌<◌, ◌≤◌, List, ◌++◌, length, drop, Ok, Err, Result}
use Rattle.machine.specs.declared.lent.TooShort.{TooShort}
use Rattle.machine.specs.Lent.{line_bytes}
use Rattle.machine.specs.Script.{script_number, script_layer}
use Rattle.machine.specs.Text.{record_line, end_line, fault_line, refused_line}
use Rattle.trace.specs.declared.Line.{Line}
use Rattle.trace.specs.declared.Line.TheVariants.{Record, End, Fault, Refused}

abbrev pub line_text : Line → List ℕ
line_text (Record r) = record_line r
line_text (End t x) = end_line t x
line_text (Fault f) = fault_line f
line_text (Refused r l) = refused_line (script_number r) l (script_layer r)

-- the n bytes of the text, which are never more than have to be lent, stand at the front of the buffer, and all behind
-- them is as it was
pub record Written (text before after : List ℕ) (n : ℕ) : Type 0 where
  pub count : n ≡ length text
  pub fits : n ≤ line_bytes
  pub bytes : after ≡ text ++ drop n before

-- a line is written exactly where enough bytes are lent; else it is refused, and nothing is changed
abbrev pub Writes : List ℕ → List ℕ → List ℕ → Result ℕ TooShort → Type 0
Writes text before after (Ok n) = (line_bytes ≤ length before) × Written text before after n
Writes text before after (Err e) = (length before < line_bytes) × (after ≡ before)
