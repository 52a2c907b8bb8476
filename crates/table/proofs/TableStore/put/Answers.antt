use Rattle.table.proofs.Changing.{put_far, put_full, put_spent, put_done}
use Rattle.records.proofs.Counts.{one_empty}
use Rattle.table.proofs.TableStore.put.Goals as goal

pub returns-then-queue-ge-QUEUES-clause-effect : goal.returns-then-queue-ge-QUEUES-clause-effect
returns-then-queue-ge-QUEUES-clause-effect g c = put_far c.requires g.T.Ordered.le g.met.T.Ordered.laws c.args.queue c.args.element c.if-queue-ge-QUEUES.true

pub returns-in_default-clause-effect : goal.returns-in_default-clause-effect
returns-in_default-clause-effect g c = put_full c.requires g.T.Ordered.le g.met.T.Ordered.laws c.args.queue c.if-queue-ge-QUEUES.false c.args.element c.in_default.ensures

pub returns-then-self-clause-effect : goal.returns-then-self-clause-effect
returns-then-self-clause-effect g c = put_spent c.requires g.T.Ordered.le g.met.T.Ordered.laws c.args.queue c.if-queue-ge-QUEUES.false c.in-Some.i c.in-Some.ensures c.args.element c.if-self.true

pub write-requires : goal.write-requires
write-requires g c = (one_empty c.args.self.now.cells.now c.in-Some.i c.in-Some.ensures).0

pub returns : goal.returns
returns g c =
    let done = put_done c.requires g.T.Ordered.le g.met.T.Ordered.laws c.args.queue c.if-queue-ge-QUEUES.false c.in-Some.i c.in-Some.ensures c.args.element c.if-self.false c.write.ensures in
    record { sound = done.sound; effect = done.effect; refused = tt }
