-- The machines that lists of calls lead to.
use Rattle.std.specs.Prelude.{ℕ, List, Option}
use Rattle.machine.specs.Machine.{Bounds, Machine, start_machine}
use Rattle.machine.specs.Calls.{Call, calls}

-- after these calls, over stores with these bounds, stopped there or never
abbrev pub after : List Call → Bounds → Bounds → Option ℕ → Machine
after xs events lines c = calls xs (start_machine events lines c)

-- P holds after every list of calls
abbrev pub Always : (Machine → Type 0) → Type 0
Always P = (xs : List Call) (events lines : Bounds) (c : Option ℕ) → P (after xs events lines c)
