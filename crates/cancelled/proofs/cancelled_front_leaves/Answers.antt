use Rattle.std.proofs.Common.{refl}
use Rattle.cancelled.specs.Cancelled.{kept, cancelled, purged}
use Rattle.cancelled.proofs.cancelled_front_leaves.Goals as goal

pub returns : goal.returns
unfolding kept cancelled purged
returns c = (refl, refl)
