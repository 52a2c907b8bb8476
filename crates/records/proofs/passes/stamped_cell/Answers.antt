use Rattle.std.proofs.Common.{sym, ap, ◌∙◌}
use Rattle.std.proofs.lemmas.List.Quantifiers.{position-Some}
use Rattle.std.proofs.lemmas.Bool.{false≢true}
use Rattle.records.specs.Cells.{has_stamp}
use Rattle.records.proofs.passes.stamped_cell.Goals as goal

-- a cell that has the stamp is not empty
pub returns-in_err-cells : goal.returns-in_err-cells
returns-in_err-cells g c =
    let has = (position-Some (has_stamp c.args.stamp) c.args.cells.now c.in_ok-i.i c.index-cells-i.result (sym c.in_ok-i.ensures)).1 in
    absurd (false≢true (ap (has_stamp c.args.stamp) (sym (sym c.index-cells-i.is ∙ c.in_err-cells.was)) ∙ has))
