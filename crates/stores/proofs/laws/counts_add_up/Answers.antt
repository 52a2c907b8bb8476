use Rattle.stores.proofs.Counting.{adds_up}
use Rattle.stores.proofs.laws.counts_add_up.Goals as goal

pub returns : goal.returns
returns g c = adds_up g.T.Ordered.le
