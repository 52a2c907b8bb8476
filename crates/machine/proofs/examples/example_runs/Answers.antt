use Rattle.std.proofs.Common.{refl}
use Rattle.std.specs.Fmt.{digits}
use Rattle.machine.proofs.examples.example_runs.Goals as goal

pub returns : goal.returns
unfolding digits
returns c = record { whole = refl; puts = refl; five_cells = refl; six_cells = refl; eight_stamps = refl; eight_stamps_orders = refl; nine_stamps = refl }
