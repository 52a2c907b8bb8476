use Rattle.machine_laws.proofs.StoppedCalls.{stopped_alike}
use Rattle.machine_laws.proofs.laws.stopped_is_unstopped_before.Goals as goal

pub returns : goal.returns
returns c = stopped_alike
