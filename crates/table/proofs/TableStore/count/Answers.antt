use Rattle.table.proofs.Standing.{count_here}
use Rattle.table.proofs.TableStore.count.Goals as goal

pub returns : goal.returns
returns g c = record { answer = count_here c.requires g.T.Ordered.le c.args.queue c.if-queue-ge-QUEUES.false c.counted.result c.counted.ensures }
