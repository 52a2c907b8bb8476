use Rattle.leftist.proofs.Taking.{front}
use Rattle.leftist.proofs.heaps.LinkHeapLink.front.Goals as goal

pub returns : goal.returns
returns g c t h = front g.T.Ordered.le t c.args.root h
