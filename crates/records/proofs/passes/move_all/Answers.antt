use Rattle.std.proofs.Common.{set, sym, ap, ◌∙◌}
use Rattle.std.proofs.lemmas.List.Edits.{map_over_more}
use Rattle.records.specs.Cells.{moved}
use Rattle.records.proofs.passes.move_all.Goals as goal

pub loop-cell-preserved : goal.loop-cell-preserved
loop-cell-preserved g c =
    let f = moved c.args.into c.args.from in
    ap (set c.loop-cell.cells c.loop-cell.cell-index) (c.moved.ensures ∙ ap f (sym c.cell-item.is))
    ∙ map_over_more f c.args.cells.now c.loop-cell.cells c.loop-cell.cell-index c.cell-item.result c.loop-cell-test.true c.loop-cell.invariant c.cell-item.is
