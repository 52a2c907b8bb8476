use Rattle.scanner.proofs.Filling.{filled_once}
use Rattle.scanner.proofs.numerals_are_unique.Goals as goal

pub returns : goal.returns
returns c = filled_once
