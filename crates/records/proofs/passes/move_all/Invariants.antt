use Rattle.std.proofs.Common.{◌≡◌, ◌++◌, map, take, drop}
use Rattle.records.specs.Cells.{moved}
use Rattle.records.proofs.passes.move_all.Given as goal

abbrev pub invariant-loop-cell : goal.invariant-loop-cell
invariant-loop-cell g l = l.cells ≡ map (moved l.into l.from) (take l.cell-index l.initial.cells) ++ drop l.cell-index l.initial.cells
