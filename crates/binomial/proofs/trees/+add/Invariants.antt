use Rattle.std.proofs.Common.{◌+◌}
use Rattle.forests.proofs.Parting.{extent}
use Rattle.binomial.specs.Binomial.{cells_of}
use Rattle.binomial.proofs.trees.+add.Given as goal

abbrev pub decreases-add : goal.decreases-add
decreases-add g l = extent (cells_of g.T.Ordered.le) l.links.now l.entries.now l.a + extent (cells_of g.T.Ordered.le) l.links.now l.entries.now l.b
