use Rattle.std.proofs.Common.{Ok, sym, ap, arith, MutBor}
use Rattle.stores.specs.Promises.{Melds}
use Rattle.cells.specs.Queues.{meaning_of}
use Rattle.cells.proofs.Changing.{Done}
use Rattle.cells.proofs.Melding.{meld_into, meld_from, meld_same, meldable, counts_few, melding}
use Rattle.heap_store.proofs.Refusing.{queue_refused}
use Rattle.heap_store.proofs.store.HeapStoreStore.meld.Given as given
use Rattle.heap_store.proofs.store.HeapStoreStore.meld.Goals as goal

pub returns-in_err-kept-clause-effect : goal.returns-in_err-kept-clause-effect
returns-in_err-kept-clause-effect g c =
    let k = queue_refused c.from_residual.result c.in_err-kept.field-0.0 c.from_residual.ensures.1 c.args.self.now.heads c.args.into c.in_err-kept.ensures in
    rw k.1 (meld_into (g.L.HeapLink.form g.T.Ordered.le) g.met.L.HeapLink.lawful c.requires c.args.into c.args.from k.0)

pub returns-in_err-moved-clause-effect : goal.returns-in_err-moved-clause-effect
returns-in_err-moved-clause-effect g c =
    let k = queue_refused c.from_residual-in_err-moved.result c.in_err-moved.field-0.0 c.from_residual-in_err-moved.ensures.1 c.args.self.now.heads c.args.from c.in_err-moved.ensures in
    rw k.1 (meld_from (g.L.HeapLink.form g.T.Ordered.le) g.met.L.HeapLink.lawful c.requires c.args.into c.args.from c.in_ok-kept.field-0 c.in_ok-kept.ensures k.0)

pub returns-then-into-from-clause-effect : goal.returns-then-into-from-clause-effect
returns-then-into-from-clause-effect g c =
    meld_same (g.L.HeapLink.form g.T.Ordered.le) g.met.L.HeapLink.lawful c.requires c.args.into c.args.from c.in_ok-kept.field-0 c.in_ok-kept.ensures c.in_ok-moved.field-0 c.in_ok-moved.ensures c.if-into-from.true

pub meld_roots-melded-requires : goal.meld_roots-melded-requires
meld_roots-melded-requires g c =
    (_, _, meldable (g.L.HeapLink.form g.T.Ordered.le) g.met.L.HeapLink.lawful c.requires c.args.into c.args.from c.in_ok-kept.field-0 c.in_ok-kept.ensures c.in_ok-moved.field-0 c.in_ok-moved.ensures c.if-into-from.false)

pub unite-requires-clause-fits : goal.unite-requires-clause-fits
unite-requires-clause-fits g c =
    rw c.meld_roots-melded.ensures.heads (omega (arith, counts_few (g.L.HeapLink.form g.T.Ordered.le) g.met.L.HeapLink.lawful c.requires c.args.into c.args.from c.in_ok-kept.field-0 c.in_ok-kept.ensures c.in_ok-moved.field-0 c.in_ok-moved.ensures c.if-into-from.false))

done : (g : given.Over) (c : goal.After-unite g) → Done (g.L.HeapLink.form g.T.Ordered.le) (Melds g.T.Ordered.le (meaning_of (g.L.HeapLink.form g.T.Ordered.le) c.args.self.now.heads c.args.self.now.links.now c.args.self.now.entries.now) c.args.into c.args.from (Ok c.unite.result)) c.unite.new.self c.meld_roots-melded.new.self.links.now c.meld_roots-melded.new.self.entries.now
done g c =
    let F = g.L.HeapLink.form g.T.Ordered.le in
    let m = c.meld_roots-melded.ensures in
    let u = c.unite.ensures in
    let d = melding F g.met.L.HeapLink.lawful c.requires c.args.into c.args.from c.in_ok-kept.field-0 c.in_ok-kept.ensures c.in_ok-moved.field-0 c.in_ok-moved.ensures c.if-into-from.false _ _ m.long (m.melded _ _ (meldable F g.met.L.HeapLink.lawful c.requires c.args.into c.args.from c.in_ok-kept.field-0 c.in_ok-kept.ensures c.in_ok-moved.field-0 c.in_ok-moved.ensures c.if-into-from.false)) c.unite.result (rw (sym m.heads) u.answer) c.unite.new.self (rw (sym m.heads) u.heads) in
    rw (ap (λ (x : MutBor _). x.now) m.entries) d

pub returns-clause-sound : goal.returns-clause-sound
returns-clause-sound g c = (done g c).sound

pub returns-clause-effect : goal.returns-clause-effect
returns-clause-effect g c = (done g c).effect
