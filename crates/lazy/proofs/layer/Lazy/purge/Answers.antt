use Rattle.std.proofs.Common.{ap, ◌∙◌}
use Rattle.stores.specs.Meaning.{list_of}
use Rattle.cancelled.specs.Cancelled.{front_cancelled}
use Rattle.cancelled.proofs.Purging.{purging_done, purging_more}
use Rattle.lazy.specs.declared.marking.Marks.{Marks}
use Rattle.lazy.proofs.layer.Lazy.purge.Goals as goal

pub purge-preserved : goal.purge-preserved
purge-preserved g c =
    let i = c.purge.invariant in
    let e = c.take.ensures in
    let s = c.args.self.now in
    let n = g.B.Store.meaning c.purge.self.below in
    let test = c.front_cancelled.ensures ∙ ap (λ (x : Marks). front_cancelled x.queue_of (list_of n.state c.args.queue)) i.2 in
    (e.sound, purging_more s.own.queue_of (g.B.Store.meaning s.below) c.args.queue n i.1 _ c.take.result c.requires.near c.front_cancelled.result test c.purge-test.true e.effect (g.met.B.BareHeap.bare _ e.sound), i.2)

pub returns-clause-effect : goal.returns-clause-effect
returns-clause-effect g c =
    let i = c.purge.invariant in
    let s = c.args.self.now in
    let n = g.B.Store.meaning c.purge.self.below in
    let test = c.front_cancelled.ensures ∙ ap (λ (x : Marks). front_cancelled x.queue_of (list_of n.state c.args.queue)) i.2 in
    purging_done s.own.queue_of (g.B.Store.meaning s.below) c.args.queue n i.1 c.front_cancelled.result test c.purge-test.false
