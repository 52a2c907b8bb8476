use Rattle.std.proofs.Common.{◌≡◌, ◌∙◌}
use Rattle.stores.specs.Meaning.{fresh_bare}
use Rattle.cells.proofs.Changing.{Done}
use Rattle.cells.proofs.Soundness.{formed}
use Rattle.cells.proofs.FreshStore.{fresh_store}
use Rattle.heap_store.proofs.store.make.Given as given
use Rattle.heap_store.proofs.store.make.Goals as goal

done : (g : given.Over) (c : goal.After-fresh-heads g) → Done (g.L.HeapLink.form g.T.Ordered.le) (λ m. m ≡ fresh_bare c.args.sizes.cells c.args.sizes.stamps) c.fresh-heads.result c.make_idle-free.new.links c.args.entries.now
done g c = fresh_store (g.L.HeapLink.form g.T.Ordered.le) g.met.L.HeapLink.lawful _ _ _ c.args.sizes.cells c.args.sizes.stamps c.requires.sizes (c.make_idle-free.auto.links ∙ c.requires.links_long) c.requires.entries_long c.make_idle-free.ensures c.fresh-heads.result c.fresh-heads.ensures

pub returns-clause-sound : goal.returns-clause-sound
returns-clause-sound g c = (done g c).sound

pub returns-clause-meaning : goal.returns-clause-meaning
returns-clause-meaning g c = (done g c).effect

pub returns-clause-formed : goal.returns-clause-formed
returns-clause-formed g c = formed (g.L.HeapLink.form g.T.Ordered.le) g.met.L.HeapLink.lawful (done g c).sound
