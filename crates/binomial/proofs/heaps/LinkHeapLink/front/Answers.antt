use Rattle.binomial.proofs.Taking.{any_roots, front}
use Rattle.binomial.proofs.heaps.LinkHeapLink.front.Goals as goal

pub least-requires : goal.least-requires
least-requires g c = (_, any_roots g.T.Ordered.le g.met.T.Ordered.laws c.requires.0 c.args.root c.requires.1)

pub returns : goal.returns
returns g c t h =
    let le = g.T.Ordered.le in
    let laws = g.met.T.Ordered.laws in
    let l = c.least.ensures _ (any_roots le laws t c.args.root h) in
    front le laws t c.args.root h _ l.0 l.1
