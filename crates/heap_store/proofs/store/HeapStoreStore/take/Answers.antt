use Rattle.std.proofs.Common.{Ok, Some, set, ap, ◌∙◌, arith, MutBor}
use Rattle.std.specs.List.{slice_get}
use Rattle.stores.specs.Promises.{Takes}
use Rattle.cells.specs.Queues.{meaning_of, with_idle}
use Rattle.cells.specs.declared.heads.Heads.{Heads}
use Rattle.cells.proofs.Changing.{Done}
use Rattle.cells.proofs.Taking.{take_queue, take_none, heap_at, some_counted, taking}
use Rattle.heap_store.proofs.Refusing.{queue_refused}
use Rattle.heap_store.proofs.store.HeapStoreStore.take.Given as given
use Rattle.heap_store.proofs.store.HeapStoreStore.take.Goals as goal

pub returns-in_err-kept-clause-effect : goal.returns-in_err-kept-clause-effect
returns-in_err-kept-clause-effect g c =
    let k = queue_refused c.from_residual.result c.in_err-kept.field-0.0 c.from_residual.ensures.1 c.args.self.now.heads c.args.queue c.in_err-kept.ensures in
    rw k.1 (take_queue (g.L.HeapLink.form g.T.Ordered.le) g.met.L.HeapLink.lawful c.requires c.args.queue k.0)

pub returns-in_default-clause-effect : goal.returns-in_default-clause-effect
returns-in_default-clause-effect g c =
    take_none (g.L.HeapLink.form g.T.Ordered.le) g.met.L.HeapLink.lawful c.requires c.args.queue c.in_ok-kept.kept c.in_ok-kept.ensures c.in_default.is

pub take_root-cell-requires : goal.take_root-cell-requires
take_root-cell-requires g c =
    (_, heap_at (g.L.HeapLink.form g.T.Ordered.le) g.met.L.HeapLink.lawful c.requires c.args.queue c.in_ok-kept.kept c.in_ok-kept.ensures c.in-Some.root c.in-Some.is)

pub release-requires : goal.release-requires
release-requires g c =
    omega (arith, c.take_root-cell.ensures.long, (c.take_root-cell.ensures.taken _ (heap_at (g.L.HeapLink.form g.T.Ordered.le) g.met.L.HeapLink.lawful c.requires c.args.queue c.in_ok-kept.kept c.in_ok-kept.ensures c.in-Some.root c.in-Some.is)).within.0)

pub overflow_sub-kept : goal.overflow_sub-kept
overflow_sub-kept g c =
    omega (arith, some_counted (g.L.HeapLink.form g.T.Ordered.le) g.met.L.HeapLink.lawful c.requires c.args.queue c.in_ok-kept.kept c.in_ok-kept.ensures c.in-Some.root c.in-Some.is)

done : (g : given.Over) (c : goal.After-entry g) → Done (g.L.HeapLink.form g.T.Ordered.le) (Takes g.T.Ordered.le (meaning_of (g.L.HeapLink.form g.T.Ordered.le) c.args.self.now.heads c.args.self.now.links.now c.args.self.now.entries.now) c.args.queue (Ok c.entry.result)) c.settle.new.self c.release.new.self.links.now c.release.new.self.entries.now
done g c =
    let F = g.L.HeapLink.form g.T.Ordered.le in
    let t = c.take_root-cell.ensures in
    let r = c.release.ensures in
    let m = t.taken _ (heap_at F g.met.L.HeapLink.lawful c.requires c.args.queue c.in_ok-kept.kept c.in_ok-kept.ensures c.in-Some.root c.in-Some.is) in
    let same = ap (λ (x : MutBor _). x.now) (r.entries ∙ t.entries) in
    let heads = r.heads ∙ ap (λ (x : Heads). with_idle x (Some c.take_root-cell.result.0) x.next) t.heads in
    let links = r.links ∙ ap (λ (x : Heads). set c.take_root-cell.new.self.links.now c.take_root-cell.result.0 (F.idle x.free)) t.heads in
    rw same (taking F g.met.L.HeapLink.lawful c.requires c.args.queue c.in_ok-kept.kept c.in_ok-kept.ensures t.long m c.entry.result (c.entry.ensures ∙ ap (λ x. slice_get x c.take_root-cell.result.0) same) c.release.new.self.heads c.settle.new.self c.release.new.self.links.now heads links c.settle.ensures)

pub returns-clause-sound : goal.returns-clause-sound
returns-clause-sound g c = (done g c).sound

pub returns-clause-effect : goal.returns-clause-effect
returns-clause-effect g c = (done g c).effect
