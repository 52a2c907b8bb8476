use Rattle.machine_laws.proofs.OrderLaws.{arrived_accounted}
use Rattle.machine_laws.proofs.laws.arrived_adds_up.Goals as goal

pub returns : goal.returns
returns c = arrived_accounted
