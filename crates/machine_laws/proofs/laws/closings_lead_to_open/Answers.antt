use Rattle.machine_laws.proofs.Closings.{open_reached}
use Rattle.machine_laws.proofs.laws.closings_lead_to_open.Goals as goal

pub returns : goal.returns
returns c = open_reached
