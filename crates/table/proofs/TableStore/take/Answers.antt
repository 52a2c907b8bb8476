use Rattle.table.proofs.Changing.{take_far, take_none, take_done}
use Rattle.table.proofs.TableStore.take.Goals as goal

pub returns-then-queue-ge-QUEUES-clause-effect : goal.returns-then-queue-ge-QUEUES-clause-effect
returns-then-queue-ge-QUEUES-clause-effect g c = take_far c.requires g.T.Ordered.le g.met.T.Ordered.laws c.args.queue c.if-queue-ge-QUEUES.true

pub returns-in_default-clause-effect : goal.returns-in_default-clause-effect
returns-in_default-clause-effect g c = take_none c.requires g.T.Ordered.le g.met.T.Ordered.laws c.args.queue c.if-queue-ge-QUEUES.false c.in_default.ensures

pub returns : goal.returns
returns g c =
    let done = take_done c.requires g.T.Ordered.le g.met.T.Ordered.laws c.args.queue c.if-queue-ge-QUEUES.false c.in-Some.i c.in-Some.entry c.in-Some.ensures c.write.ensures in
    record { sound = done.sound; effect = done.effect; refused = tt }
