use Rattle.leftist.proofs.Ranks.{ranks_are_low}
use Rattle.leftist.proofs.trees.ranks_are_low.Goals as goal

pub returns : goal.returns
returns g c = ranks_are_low
