use Rattle.elements.specs.Order.{precedes_by, stamp_of}
use Rattle.elements.proofs.Strictness.{strict}
use Rattle.stores.proofs.Removing.{front_before}
use Rattle.stores.proofs.laws.front_precedes_all.Goals as goal

pub returns : goal.returns
returns g c = front_before (precedes_by g.T.Ordered.le) stamp_of (strict g.T.Ordered.le g.met.T.Ordered.laws)
