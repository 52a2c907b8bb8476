use Rattle.std.proofs.Common.{arith}
use Rattle.elements.proofs.Strictness.{strict}
use Rattle.forests.proofs.Joining.{joined_before}
use Rattle.forests.proofs.Parting.{part_start, part_end}
use Rattle.pairing.specs.Pairing.{cells_of}
use Rattle.pairing.specs.Lawful.{laid}
use Rattle.pairing.proofs.Turns.{turn_within, gather_first, gather_turn}
use Rattle.pairing.proofs.passes.gather.Goals as goal

pub trees-init : goal.trees-init
trees-init g c t f = let le = g.T.Ordered.le in part_start (cells_of le) (laid le) (strict le g.met.T.Ordered.laws) tt f

pub bounds-links-i : goal.bounds-links-i
bounds-links-i g c = let le = g.T.Ordered.le in turn_within le (strict le g.met.T.Ordered.laws) (c.trees.invariant _ c.requires.1) c.in-Some.is

pub set_next-requires : goal.set_next-requires
set_next-requires g c = let le = g.T.Ordered.le in turn_within le (strict le g.met.T.Ordered.laws) (c.trees.invariant _ c.requires.1) c.in-Some.is

pub trees-smaller-in-None : goal.trees-smaller-in-None
trees-smaller-in-None g c = let le = g.T.Ordered.le in (gather_first le (strict le g.met.T.Ordered.laws) (c.trees.invariant _ c.requires.1) c.in-Some.is c.in-None.is _ c.set_next.ensures).falls

pub trees-preserved-in-None : goal.trees-preserved-in-None
trees-preserved-in-None g c t f = let le = g.T.Ordered.le in (gather_first le (strict le g.met.T.Ordered.laws) (c.trees.invariant t f) c.in-Some.is c.in-None.is _ c.set_next.ensures).parted

pub join-root-requires : goal.join-root-requires
join-root-requires g c = let le = g.T.Ordered.le in record { joinable = (_, _, _, (gather_turn le (strict le g.met.T.Ordered.laws) (c.trees.invariant _ c.requires.1) c.in-Some.is c.in-Some-whole.j c.in-Some-whole.is).joinable); room = (tt, tt) }

pub trees-smaller : goal.trees-smaller
trees-smaller g c =
    let le = g.T.Ordered.le in
    let w = gather_turn le (strict le g.met.T.Ordered.laws) (c.trees.invariant _ c.requires.1) c.in-Some.is c.in-Some-whole.j c.in-Some-whole.is in
    (w.ends _ _ (omega (arith, c.join-root.auto.links)) (joined_before (cells_of le) w.joinable (c.join-root.ensures _ _ _ w.joinable))).falls

pub trees-preserved : goal.trees-preserved
trees-preserved g c t f =
    let le = g.T.Ordered.le in
    let w = gather_turn le (strict le g.met.T.Ordered.laws) (c.trees.invariant t f) c.in-Some.is c.in-Some-whole.j c.in-Some-whole.is in
    (w.ends _ _ (omega (arith, c.join-root.auto.links)) (joined_before (cells_of le) w.joinable (c.join-root.ensures _ _ _ w.joinable))).parted

pub returns : goal.returns
returns g c t f = let le = g.T.Ordered.le in part_end (cells_of le) (laid le) (strict le g.met.T.Ordered.laws) c.in_default.is (c.trees.invariant t f)
