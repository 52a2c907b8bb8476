use Rattle.machine_laws.proofs.TimedCalls.{runs_end}
use Rattle.machine_laws.proofs.laws.runs_end.Goals as goal

pub returns : goal.returns
returns c = runs_end
