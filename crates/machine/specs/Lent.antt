-- Memory that is lent to a step or to the line writer.
use Rattle.std.specs.Prelude.{ℕ}

-- how many records a step may write, and how many bytes a line of the trace may have
abbrev pub step_places : ℕ
step_places = 9

abbrev pub line_bytes : ℕ
line_bytes = 96

-- the number of the refusal where fewer are lent
abbrev pub short_number : ℕ
short_number = 8
