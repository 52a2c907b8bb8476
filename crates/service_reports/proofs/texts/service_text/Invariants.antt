use Rattle.std.proofs.Common.{◌≡◌, take, string_bytes}
use Rattle.service_reports.specs.Texts.{take_lines}
use Rattle.service_reports.proofs.texts.service_text.Given as goal

abbrev pub invariant-loop-entry : goal.invariant-loop-entry
invariant-loop-entry l = string_bytes l.text ≡ take_lines (take l.entry-index l.served)
