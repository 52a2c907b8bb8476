use Rattle.elements.proofs.Strictness.{strict}
use Rattle.forests.proofs.Parting.{part_start}
use Rattle.binomial.specs.Binomial.{cells_of}
use Rattle.binomial.specs.Lawful.{laid}
use Rattle.binomial.proofs.Turning.{turn_within, turned, turned_all}
use Rattle.binomial.proofs.roots.turn_over.Goals as goal

pub children-init : goal.children-init
children-init g c es k t f = let le = g.T.Ordered.le in (k, part_start (cells_of le) (laid le) (strict le g.met.T.Ordered.laws) tt f)

pub bounds-links-i : goal.bounds-links-i
bounds-links-i g c = let le = g.T.Ordered.le in turn_within le (strict le g.met.T.Ordered.laws) _ (c.children.invariant _ _ _ c.requires.3).1 c.in-Some.is

pub set_next-requires : goal.set_next-requires
set_next-requires g c = let le = g.T.Ordered.le in turn_within le (strict le g.met.T.Ordered.laws) _ (c.children.invariant _ _ _ c.requires.3).1 c.in-Some.is

pub children-smaller : goal.children-smaller
children-smaller g c = let le = g.T.Ordered.le in (turned le (strict le g.met.T.Ordered.laws) _ (c.children.invariant _ _ _ c.requires.3).1 c.in-Some.is _ c.set_next.ensures).falls

pub children-preserved : goal.children-preserved
children-preserved g c es k t f =
    let le = g.T.Ordered.le in
    let w = turned le (strict le g.met.T.Ordered.laws) _ (c.children.invariant es k t f).1 c.in-Some.is _ c.set_next.ensures in
    (w.degree, w.parted)

pub returns : goal.returns
returns g c es k t f = let le = g.T.Ordered.le in turned_all le (strict le g.met.T.Ordered.laws) _ (c.children.invariant es k t f).1 c.in_default.is
