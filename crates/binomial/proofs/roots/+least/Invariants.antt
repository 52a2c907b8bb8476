use Rattle.std.proofs.Common.{Some}
use Rattle.forests.proofs.Parting.{extent}
use Rattle.binomial.specs.Binomial.{cells_of}
use Rattle.binomial.proofs.roots.+least.Given as goal

abbrev pub decreases-least : goal.decreases-least
decreases-least g l = extent (cells_of g.T.Ordered.le) l.links.now l.entries.now (Some l.at)
