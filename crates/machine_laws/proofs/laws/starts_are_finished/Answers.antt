use Rattle.machine_laws.proofs.OrderLaws.{finished_between}
use Rattle.machine_laws.proofs.laws.starts_are_finished.Goals as goal

pub returns : goal.returns
returns c = finished_between
