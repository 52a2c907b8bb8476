use Rattle.std.proofs.Common.{arith}
use Rattle.elements.proofs.Strictness.{strict}
use Rattle.binomial.proofs.TakingOut.{turn}
use Rattle.binomial.proofs.roots.+take_out.Goals as goal

pub take_out-others-requires : goal.take_out-others-requires
take_out-others-requires g t c κs within =
    let le = g.T.Ordered.le in
    let w = turn le (strict le g.met.T.Ordered.laws) _ c.requires.4 c.requires.5 in
    (omega (arith, c.decreases, w.falls _ c.in-Some.is c.if-at-i.false), (within, (_, _, _, _, w.forest _ c.in-Some.is c.if-at-i.false, w.least c.if-at-i.false)))

pub returns-then-at-i : goal.returns-then-at-i
returns-then-at-i g t c es k x u p l = let le = g.T.Ordered.le in (turn le (strict le g.met.T.Ordered.laws) u p l).first c.if-at-i.true _ c.set_next.ensures

pub returns-in_default : goal.returns-in_default
returns-in_default g t c es k x u p l = let le = g.T.Ordered.le in absurd ((turn le (strict le g.met.T.Ordered.laws) u p l).none c.in_default.is c.if-at-i.false)

pub returns : goal.returns
returns g t c es k x u p l =
    let le = g.T.Ordered.le in
    let w = turn le (strict le g.met.T.Ordered.laws) u p l in
    w.ends _ c.in-Some.is c.if-at-i.false _ _ (omega (arith, c.take_out-others.auto.links)) (c.take_out-others.ensures _ _ _ _ (w.forest _ c.in-Some.is c.if-at-i.false) (w.least c.if-at-i.false)) _ c.set_next-2.ensures (omega (arith, c.set_next-2.auto.links))
