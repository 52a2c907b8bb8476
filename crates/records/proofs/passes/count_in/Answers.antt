use Rattle.std.proofs.Common.{true, false, is_some, ap, ◌∙◌, arith}
use Rattle.std.proofs.lemmas.List.{take_all}
use Rattle.records.specs.Cells.{queued}
use Rattle.records.proofs.Passing.{queued_more}
use Rattle.records.proofs.passes.count_in.Goals as goal
use Rattle.records.proofs.passes.count_in.Goals.{then-is_some, else-is_some}

pub loop-cell-preserved : goal.loop-cell-preserved
loop-cell-preserved g c =
    elim c.if-is_some.branch [
      | then-is_some w ↦ (omega (arith, w.n-is), omega (arith, w.n-is, queued_more c.args.queue c.loop-cell.n c.args.cells.now c.loop-cell.cell-index c.cell-item.result true c.loop-cell-test.true c.cell-item.is c.loop-cell.invariant.1 (w.if-is_some.ensures ∙ ap is_some c.entry_in.ensures)))
      | else-is_some w ↦ (omega (arith, w.n-is), omega (arith, w.n-is, queued_more c.args.queue c.loop-cell.n c.args.cells.now c.loop-cell.cell-index c.cell-item.result false c.loop-cell-test.true c.cell-item.is c.loop-cell.invariant.1 (w.if-is_some.ensures ∙ ap is_some c.entry_in.ensures)))
    ]

pub returns : goal.returns
returns g c = c.loop-cell.invariant.1 ∙ ap (queued c.args.queue) (take_all c.loop-cell.cell-index c.args.cells.now c.loop-cell-test.false)
