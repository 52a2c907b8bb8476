use Rattle.outcomes.proofs.Cells.{enough_suffice}
use Rattle.outcomes.proofs.laws.enough_cells_suffice.Goals as goal

pub returns : goal.returns
returns c = enough_suffice
