use Rattle.std.proofs.Common.{arith}
use Rattle.elements.proofs.Strictness.{strict}
use Rattle.forests.proofs.Joining.{joined_before}
use Rattle.forests.proofs.Parting.{part_start, part_end}
use Rattle.pairing.specs.Pairing.{cells_of}
use Rattle.pairing.specs.Lawful.{laid}
use Rattle.pairing.proofs.Turns.{turn_within, moved_before, pair_turn}
use Rattle.pairing.proofs.passes.pair_up.Goals as goal

pub pairs-init : goal.pairs-init
pairs-init g c t f = let le = g.T.Ordered.le in part_start (cells_of le) (laid le) (strict le g.met.T.Ordered.laws) tt f

pub bounds-links-i : goal.bounds-links-i
bounds-links-i g c = let le = g.T.Ordered.le in turn_within le (strict le g.met.T.Ordered.laws) (c.pairs.invariant _ c.requires.1) c.in-Some.is

pub set_next-requires : goal.set_next-requires
set_next-requires g c = let le = g.T.Ordered.le in turn_within le (strict le g.met.T.Ordered.laws) (c.pairs.invariant _ c.requires.1) c.in-Some.is

pub pairs-smaller-in-None : goal.pairs-smaller-in-None
pairs-smaller-in-None g c = let le = g.T.Ordered.le in (moved_before le (strict le g.met.T.Ordered.laws) (c.pairs.invariant _ c.requires.1) c.in-Some.is tt _ c.set_next.ensures c.in-None.is).falls

pub pairs-preserved-in-None : goal.pairs-preserved-in-None
pairs-preserved-in-None g c t f = let le = g.T.Ordered.le in (moved_before le (strict le g.met.T.Ordered.laws) (c.pairs.invariant t f) c.in-Some.is tt _ c.set_next.ensures c.in-None.is).parted

pub bounds-links-j : goal.bounds-links-j
bounds-links-j g c = let le = g.T.Ordered.le in (pair_turn le (strict le g.met.T.Ordered.laws) (c.pairs.invariant _ c.requires.1) c.in-Some.is c.in-Some-second.j c.in-Some-second.is).within

pub join-root-requires : goal.join-root-requires
join-root-requires g c = let le = g.T.Ordered.le in record { joinable = (_, _, _, (pair_turn le (strict le g.met.T.Ordered.laws) (c.pairs.invariant _ c.requires.1) c.in-Some.is c.in-Some-second.j c.in-Some-second.is).joinable); room = (tt, tt) }

pub pairs-smaller : goal.pairs-smaller
pairs-smaller g c =
    let le = g.T.Ordered.le in
    let w = pair_turn le (strict le g.met.T.Ordered.laws) (c.pairs.invariant _ c.requires.1) c.in-Some.is c.in-Some-second.j c.in-Some-second.is in
    (w.ends _ _ (omega (arith, c.join-root.auto.links)) (joined_before (cells_of le) w.joinable (c.join-root.ensures _ _ _ w.joinable))).falls

pub pairs-preserved : goal.pairs-preserved
pairs-preserved g c t f =
    let le = g.T.Ordered.le in
    let w = pair_turn le (strict le g.met.T.Ordered.laws) (c.pairs.invariant t f) c.in-Some.is c.in-Some-second.j c.in-Some-second.is in
    (w.ends _ _ (omega (arith, c.join-root.auto.links)) (joined_before (cells_of le) w.joinable (c.join-root.ensures _ _ _ w.joinable))).parted

pub returns : goal.returns
returns g c t f = let le = g.T.Ordered.le in part_end (cells_of le) (laid le) (strict le g.met.T.Ordered.laws) c.in_default.is (c.pairs.invariant t f)
