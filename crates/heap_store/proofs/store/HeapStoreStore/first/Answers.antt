use Rattle.std.proofs.Common.{Ok, ap, ◌∙◌}
use Rattle.cells.proofs.Taking.{first_none, heap_at, first_some}
use Rattle.heap_store.proofs.store.HeapStoreStore.first.Goals as goal

pub returns-in_default : goal.returns-in_default
returns-in_default g c =
    record { answer = first_none (g.L.HeapLink.form g.T.Ordered.le) g.met.L.HeapLink.lawful c.requires c.args.queue c.in_ok-root.field-0 c.in_ok-root.ensures c.in_default.is }

pub front-cell-requires : goal.front-cell-requires
front-cell-requires g c =
    (_, heap_at (g.L.HeapLink.form g.T.Ordered.le) g.met.L.HeapLink.lawful c.requires c.args.queue c.in_ok-root.field-0 c.in_ok-root.ensures c.in-Some.root c.in-Some.is)

pub returns : goal.returns
returns g c =
    let F = g.L.HeapLink.form g.T.Ordered.le in
    let f = c.front-cell.ensures _ (heap_at F g.met.L.HeapLink.lawful c.requires c.args.queue c.in_ok-root.field-0 c.in_ok-root.ensures c.in-Some.root c.in-Some.is) in
    record { answer = ap Ok c.entry.ensures ∙ first_some F g.met.L.HeapLink.lawful c.requires c.args.queue c.in_ok-root.field-0 c.in_ok-root.ensures f }
