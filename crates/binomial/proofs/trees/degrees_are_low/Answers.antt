use Rattle.binomial.proofs.Degrees.{degrees_are_low}
use Rattle.binomial.proofs.trees.degrees_are_low.Goals as goal

pub returns : goal.returns
returns g c = degrees_are_low
