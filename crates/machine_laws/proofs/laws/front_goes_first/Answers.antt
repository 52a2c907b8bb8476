use Rattle.machine_laws.proofs.OrderLaws.{front_first}
use Rattle.machine_laws.proofs.laws.front_goes_first.Goals as goal

pub returns : goal.returns
returns c = front_first
