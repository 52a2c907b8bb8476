use Rattle.table.proofs.Changing.{meld_far, meld_same, meld_done}
use Rattle.table.proofs.TableStore.meld.Goals as goal

pub returns-then-into-ge-QUEUES-clause-effect : goal.returns-then-into-ge-QUEUES-clause-effect
returns-then-into-ge-QUEUES-clause-effect g c = meld_far c.requires g.T.Ordered.le g.met.T.Ordered.laws c.args.into c.args.from c.then-into-ge-QUEUES.either

pub returns-then-into-from-clause-effect : goal.returns-then-into-from-clause-effect
returns-then-into-from-clause-effect g c = meld_same c.requires g.T.Ordered.le g.met.T.Ordered.laws c.args.into c.args.from c.if-into-ge-QUEUES.false c.if-from-ge-QUEUES.false c.if-into-from.true

pub returns : goal.returns
returns g c =
    let done = meld_done c.requires g.T.Ordered.le g.met.T.Ordered.laws c.args.into c.args.from c.if-into-ge-QUEUES.false c.if-from-ge-QUEUES.false c.if-into-from.false c.counted-count.result c.counted-count.ensures c.move_all.ensures in
    record { sound = done.sound; effect = done.effect; refused = tt }
