use Rattle.std.proofs.Common.{◌≡◌, ◌≤◌, take}
use Rattle.records.specs.Cells.{queued}
use Rattle.records.proofs.passes.count_in.Given as goal

abbrev pub invariant-loop-cell : goal.invariant-loop-cell
invariant-loop-cell g l = (l.n ≤ l.cell-index) × (l.n ≡ queued l.queue (take l.cell-index l.cells))
