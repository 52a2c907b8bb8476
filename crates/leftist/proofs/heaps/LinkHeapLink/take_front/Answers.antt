use Rattle.leftist.proofs.Taking.{parts}
use Rattle.leftist.proofs.heaps.LinkHeapLink.take_front.Goals as goal

pub bounds-links-root : goal.bounds-links-root
bounds-links-root g c = (parts g.T.Ordered.le c.requires.0 c.args.root c.requires.1).within

pub meld-requires : goal.meld-requires
meld-requires g c = (_, _, (parts g.T.Ordered.le c.requires.0 c.args.root c.requires.1).meldable)

pub returns : goal.returns
returns g c t h = let p = parts g.T.Ordered.le t c.args.root h in p.taken (c.meld.ensures _ _ p.meldable)
