use Rattle.std.proofs.Common.{arith}
use Rattle.elements.proofs.Strictness.{strict}
use Rattle.forests.proofs.Parting.{extent_is}
use Rattle.binomial.specs.Binomial.{cells_of}
use Rattle.binomial.specs.Lawful.{laid}
use Rattle.binomial.proofs.Joining.{twins_room, twins_joined}
use Rattle.binomial.proofs.Carrying.{carry_none, carry_turn}
use Rattle.binomial.proofs.trees.+carry.Goals as goal

pub join-sum-requires : goal.join-sum-requires
join-sum-requires g t c =
    let le = g.T.Ordered.le in
    let w = (carry_turn le (strict le g.met.T.Ordered.laws) _ _ c.in-Some.is c.requires.3).twins c.if-links-i.false in
    record { joinable = (_, _, _, w.joinable); room = twins_room le w }

pub carry-requires : goal.carry-requires
carry-requires g t c κs within =
    let le = g.T.Ordered.le in
    let w = carry_turn le (strict le g.met.T.Ordered.laws) _ _ c.in-Some.is c.requires.3 in
    let p = w.apart c.if-links-i.false _ _ (omega (arith, c.join-sum.auto.links)) (twins_joined le (w.twins c.if-links-i.false) (c.join-sum.ensures _ _ _ (w.twins c.if-links-i.false).joinable)) in
    (omega (arith, c.decreases, w.fewer, extent_is (cells_of le) (laid le) (omega (arith, c.requires.3.few)) c.requires.3.two, extent_is (cells_of le) (laid le) (omega (arith, p.few)) p.two), (within, (_, _, _, p)))

pub returns-in_default : goal.returns-in_default
returns-in_default g t c k s u p = let le = g.T.Ordered.le in carry_none le (strict le g.met.T.Ordered.laws) s u c.in_default.is p

pub returns-then-links-i : goal.returns-then-links-i
returns-then-links-i g t c k s u p = let le = g.T.Ordered.le in (carry_turn le (strict le g.met.T.Ordered.laws) s u c.in-Some.is p).front c.if-links-i.true c.set_next.ensures

pub returns-else-links-i : goal.returns-else-links-i
returns-else-links-i g t c k s u p =
    let le = g.T.Ordered.le in
    let w = carry_turn le (strict le g.met.T.Ordered.laws) s u c.in-Some.is p in
    let m = twins_joined le (w.twins c.if-links-i.false) (c.join-sum.ensures _ _ _ (w.twins c.if-links-i.false).joinable) in
    w.ends c.if-links-i.false _ _ (omega (arith, c.join-sum.auto.links)) m _ _ (c.carry.ensures _ _ _ (w.apart c.if-links-i.false _ _ (omega (arith, c.join-sum.auto.links)) m))
