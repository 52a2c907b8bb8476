-- The ranks of the two roots together fall with each turn.
use Rattle.std.proofs.Common.{◌+◌}
use Rattle.leftist.specs.Leftist.{rank_at}
use Rattle.leftist.proofs.trees.+meld.Given as goal

abbrev pub decreases-meld : goal.decreases-meld
decreases-meld g l = rank_at l.links.now l.a + rank_at l.links.now l.b
