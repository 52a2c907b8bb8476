use Rattle.std.proofs.Common.{arith}
use Rattle.binomial.proofs.Taking.{any_roots, least_out}
use Rattle.binomial.proofs.heaps.LinkHeapLink.take_front.Goals as goal

pub least-front-requires : goal.least-front-requires
least-front-requires g c = (_, any_roots g.T.Ordered.le g.met.T.Ordered.laws c.requires.0 c.args.root c.requires.1)

pub take_out-others-requires : goal.take_out-others-requires
take_out-others-requires g c = (_, _, _, _, c.requires.1, (c.least-front.ensures _ (any_roots g.T.Ordered.le g.met.T.Ordered.laws c.requires.0 c.args.root c.requires.1)).1)

pub bounds-links-front : goal.bounds-links-front
bounds-links-front g c =
    let le = g.T.Ordered.le in
    let laws = g.met.T.Ordered.laws in
    let l = c.least-front.ensures _ (any_roots le laws c.requires.0 c.args.root c.requires.1) in
    (least_out le laws c.requires.0 c.args.root c.requires.1 _ l.0 l.1 _ _ (omega (arith, c.take_out-others.auto.links)) (c.take_out-others.ensures _ _ _ _ c.requires.1 l.1)).within

pub turn_over-turned-requires : goal.turn_over-turned-requires
turn_over-turned-requires g c =
    let le = g.T.Ordered.le in
    let laws = g.met.T.Ordered.laws in
    let l = c.least-front.ensures _ (any_roots le laws c.requires.0 c.args.root c.requires.1) in
    (_, _, _, (least_out le laws c.requires.0 c.args.root c.requires.1 _ l.0 l.1 _ _ (omega (arith, c.take_out-others.auto.links)) (c.take_out-others.ensures _ _ _ _ c.requires.1 l.1)).forest)

pub meld-requires : goal.meld-requires
meld-requires g c =
    let le = g.T.Ordered.le in
    let laws = g.met.T.Ordered.laws in
    let l = c.least-front.ensures _ (any_roots le laws c.requires.0 c.args.root c.requires.1) in
    let w = least_out le laws c.requires.0 c.args.root c.requires.1 _ l.0 l.1 _ _ (omega (arith, c.take_out-others.auto.links)) (c.take_out-others.ensures _ _ _ _ c.requires.1 l.1) in
    (_, _, w.meldable _ _ (omega (arith, c.turn_over-turned.auto.links)) (c.turn_over-turned.ensures _ _ _ w.forest))

pub returns : goal.returns
returns g c t h =
    let le = g.T.Ordered.le in
    let laws = g.met.T.Ordered.laws in
    let l = c.least-front.ensures _ (any_roots le laws t c.args.root h) in
    let w = least_out le laws t c.args.root h _ l.0 l.1 _ _ (omega (arith, c.take_out-others.auto.links)) (c.take_out-others.ensures _ _ _ _ h l.1) in
    let n = c.turn_over-turned.ensures _ _ _ w.forest in
    w.taken _ _ n _ _ (c.meld.ensures _ _ (w.meldable _ _ (omega (arith, c.turn_over-turned.auto.links)) n))
