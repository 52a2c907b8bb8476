use Rattle.machine_laws.proofs.Adding.{few_records}
use Rattle.machine_laws.proofs.laws.steps_make_few_records.Goals as goal

pub returns : goal.returns
returns c = few_records
