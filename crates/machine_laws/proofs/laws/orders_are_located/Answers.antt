use Rattle.machine_laws.proofs.OrderLaws.{orders_located}
use Rattle.machine_laws.proofs.laws.orders_are_located.Goals as goal

pub returns : goal.returns
returns c = orders_located
