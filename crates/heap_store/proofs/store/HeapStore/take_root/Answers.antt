use Rattle.std.proofs.Common.{Some, MutBor}
use Rattle.elements.specs.declared.entries.Entry.{Entry}
use Rattle.cells.specs.Trees.{Tree}
use Rattle.cells.specs.Forms.{HeapAt, FrontTaken}
use Rattle.heap_store.proofs.Lending.{carried}
use Rattle.heap_store.proofs.store.HeapStore.take_root.Goals as goal

pub returns-clause-taken : goal.returns-clause-taken
returns-clause-taken g c =
    let F = g.L.HeapLink.form g.T.Ordered.le in
    carried (λ (x : MutBor _) (y : MutBor _). (t : Tree (Entry _)) → HeapAt F x.now y.now (Some c.args.root) t → FrontTaken F x.now y.now t c.take_front-taken.new.links c.take_front-taken.result.0 c.take_front-taken.result.1) c.take-links.ensures.value c.take-entries.ensures.value c.take_front-taken.ensures
