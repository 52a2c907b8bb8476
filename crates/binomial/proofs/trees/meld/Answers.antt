use Rattle.binomial.proofs.Adding.{apart}
use Rattle.binomial.proofs.trees.meld.Goals as goal

pub add-requires : goal.add-requires
add-requires g c = (0, _, _, apart g.T.Ordered.le c.requires.2)

pub returns : goal.returns
returns g c s t p = c.add.ensures 0 s t (apart g.T.Ordered.le p)
