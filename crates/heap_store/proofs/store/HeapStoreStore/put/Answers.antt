use Rattle.std.proofs.Common.{Ok, ◌+◌, ap, ◌∙◌, arith, MutBor}
use Rattle.stores.specs.declared.refusals.Refusal.TheVariants.{NoCell}
use Rattle.stores.specs.Promises.{Puts}
use Rattle.cells.specs.Queues.{meaning_of, with_queue}
use Rattle.cells.proofs.Changing.{Done}
use Rattle.cells.proofs.Putting.{put_queue, put_cell, old_few, put_stamp, putting}
use Rattle.heap_store.proofs.Refusing.{queue_refused, nothing_refused}
use Rattle.heap_store.proofs.store.HeapStoreStore.put.Given as given
use Rattle.heap_store.proofs.store.HeapStoreStore.put.Goals as goal

pub returns-in_err-root-clause-effect : goal.returns-in_err-root-clause-effect
returns-in_err-root-clause-effect g c =
    let k = queue_refused c.from_residual.result c.in_err-root.field-0.0 c.from_residual.ensures.1 c.args.self.now.heads c.args.queue c.in_err-root.ensures in
    rw k.1 (put_queue (g.L.HeapLink.form g.T.Ordered.le) g.met.L.HeapLink.lawful c.requires c.args.queue c.args.element k.0)

pub returns-in_err-cell-clause-effect : goal.returns-in_err-cell-clause-effect
returns-in_err-cell-clause-effect g c =
    let n = nothing_refused c.from_residual-in_err-cell.result c.in_err-cell.field-0.0 c.from_residual-in_err-cell.ensures.1 c.args.self.now.heads.free NoCell c.in_err-cell.ensures.value in
    rw n.1 (put_cell (g.L.HeapLink.form g.T.Ordered.le) g.met.L.HeapLink.lawful c.requires c.args.queue c.args.element c.in_ok-root.field-0 c.in_ok-root.ensures n.0)

pub returns-then-stamp-self-clause-effect : goal.returns-then-stamp-self-clause-effect
returns-then-stamp-self-clause-effect g c =
    put_stamp (g.L.HeapLink.form g.T.Ordered.le) g.met.L.HeapLink.lawful c.requires c.args.queue c.args.element c.in_ok-root.field-0 c.in_ok-root.ensures c.in_ok-cell.cell c.in_ok-cell.ensures.ok_part c.if-stamp-self.true

pub meld_roots-melded-requires : goal.meld_roots-melded-requires
meld_roots-melded-requires g c =
    (putting (g.L.HeapLink.form g.T.Ordered.le) g.met.L.HeapLink.lawful c.requires c.args.queue c.args.element c.in_ok-root.field-0 c.in_ok-root.ensures c.in_ok-cell.cell c.in_ok-cell.ensures.ok_part c.if-stamp-self.false _ _ _ c.occupy.ensures.heads c.occupy.ensures.links c.occupy.ensures.entries).meldable

pub overflow_add-count : goal.overflow_add-count
overflow_add-count g c =
    omega (arith, old_few (g.L.HeapLink.form g.T.Ordered.le) g.met.L.HeapLink.lawful c.requires c.args.queue c.args.element c.in_ok-root.field-0 c.in_ok-root.ensures)

done : (g : given.Over) (c : goal.After-settle g) → Done (g.L.HeapLink.form g.T.Ordered.le) (Puts g.T.Ordered.le (meaning_of (g.L.HeapLink.form g.T.Ordered.le) c.args.self.now.heads c.args.self.now.links.now c.args.self.now.entries.now) c.args.queue c.args.element (Ok c.args.self.now.heads.next)) c.settle.new.self c.meld_roots-melded.new.self.links.now c.meld_roots-melded.new.self.entries.now
done g c =
    let p = putting (g.L.HeapLink.form g.T.Ordered.le) g.met.L.HeapLink.lawful c.requires c.args.queue c.args.element c.in_ok-root.field-0 c.in_ok-root.ensures c.in_ok-cell.cell c.in_ok-cell.ensures.ok_part c.if-stamp-self.false _ _ _ c.occupy.ensures.heads c.occupy.ensures.links c.occupy.ensures.entries in
    let m = c.meld_roots-melded.ensures in
    rw (ap (λ (x : MutBor _). x.now) m.entries) (p.done _ _ m.long (m.melded _ _ p.meldable.2) _ (c.settle.ensures ∙ (λ j. with_queue (m.heads j) c.args.queue c.meld_roots-melded.result (c.in_ok-root.field-0.count + 1))))

pub returns-clause-sound : goal.returns-clause-sound
returns-clause-sound g c = (done g c).sound

pub returns-clause-effect : goal.returns-clause-effect
returns-clause-effect g c = (done g c).effect
