use Rattle.forests.proofs.Parting.{extent}
use Rattle.binomial.specs.Binomial.{cells_of}
use Rattle.binomial.proofs.trees.+carry.Given as goal

abbrev pub decreases-carry : goal.decreases-carry
decreases-carry g l = extent (cells_of g.T.Ordered.le) l.links.now l.entries.now l.rest
