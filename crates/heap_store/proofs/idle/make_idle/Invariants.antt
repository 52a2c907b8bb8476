-- The cells from i on are idle.
use Rattle.std.proofs.Common.{◌≤◌, length}
use Rattle.cells.specs.IdleCells.{IdleFrom}
use Rattle.heap_store.proofs.idle.make_idle.Given as goal

abbrev pub invariant-loop-i : goal.invariant-loop-i
invariant-loop-i g l = (length l.links ≤ 4096) × IdleFrom (g.L.HeapLink.form g.T.Ordered.le).none (g.L.HeapLink.form g.T.Ordered.le).idle l.links l.free l.i
