use Rattle.machine_laws.proofs.TimedCalls.{times_rise}
use Rattle.machine_laws.proofs.laws.times_never_fall.Goals as goal

pub returns : goal.returns
returns c = times_rise
