-- The degrees of the roots rise, and are at most 12.
use Rattle.std.proofs.Common.{◌-◌, get_or}
use Rattle.binomial.specs.Binomial.{no_link}
use Rattle.binomial.proofs.roots.+take_out.Given as goal

abbrev pub decreases-take_out : goal.decreases-take_out
decreases-take_out g l = 12 - (get_or l.links.now l.at no_link).degree
