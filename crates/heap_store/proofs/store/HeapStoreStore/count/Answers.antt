use Rattle.cells.proofs.Counting.{count_near}
use Rattle.heap_store.proofs.store.HeapStoreStore.count.Goals as goal

pub returns : goal.returns
returns g c = record { answer = count_near (g.L.HeapLink.form g.T.Ordered.le) g.met.L.HeapLink.lawful c.requires c.args.queue c.in_ok-queue.field-0 c.in_ok-queue.ensures }
