use Rattle.std.proofs.Common.{take}
use Rattle.elements.specs.Elements.{line_le}
use Rattle.dispatch.specs.Dispatching.{Admitted}
use Rattle.dispatch.proofs.admit.Given as goal

abbrev pub invariant-loop-index : goal.invariant-loop-index
invariant-loop-index g l =
    g.A.Store.sound l.line
    × Admitted line_le (g.A.Store.meaning l.initial.line) (take l.index l.orders) (g.A.Store.meaning l.line)
