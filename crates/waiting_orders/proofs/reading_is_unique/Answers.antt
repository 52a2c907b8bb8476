use Rattle.waiting_orders.proofs.Reading.{reads_once}
use Rattle.waiting_orders.proofs.reading_is_unique.Goals as goal

pub returns : goal.returns
returns c = reads_once
