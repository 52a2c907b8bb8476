use Rattle.outcomes.proofs.Cells.{alike}
use Rattle.outcomes.proofs.laws.agreed_calls_are_alike.Goals as goal

pub returns : goal.returns
returns c = alike
