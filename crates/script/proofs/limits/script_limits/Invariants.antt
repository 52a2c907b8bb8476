use Rattle.std.proofs.Common.{◌≡◌}
use Rattle.scanner.specs.Lines.{lines_of}
use Rattle.machine.specs.Script.{limits_in, script_limits}
use Rattle.script.proofs.limits.script_limits.Given as goal

abbrev pub invariant-loop-line : goal.invariant-loop-line
invariant-loop-line l = limits_in (lines_of l.line-iterator.rest.now) l.limits ≡ script_limits l.script
