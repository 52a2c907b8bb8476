use Rattle.std.proofs.Common.{◌≡◌, ◌++◌, take, drop}
use Rattle.cancelled.specs.Cancelled.{renamed}
use Rattle.lazy.proofs.marking.rename.Given as goal

-- those behind the place reached are as they were
abbrev pub invariant-loop-mark : goal.invariant-loop-mark
invariant-loop-mark l = l.marks ≡ renamed l.old l.new (take l.mark-index l.initial.marks) ++ drop l.mark-index l.initial.marks
