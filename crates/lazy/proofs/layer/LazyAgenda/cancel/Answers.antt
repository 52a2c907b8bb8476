use Rattle.std.proofs.Common.{◌≡◌, ◌+◌, ◌<◌, get_or, ap, ◌∙◌, arith, rules}
use Rattle.elements.proofs.Strictness.{strict}
use Rattle.stores.proofs.Answering.{cancels_refused}
use Rattle.cancelled.proofs.Layer.{formed_lazily}
use Rattle.cancelled.proofs.Cutting.{cut_some, cancel_none, cancel_over, cancels_lazily}
use Rattle.lazy.specs.declared.marking.Marks.{Marks}
use Rattle.lazy.proofs.layer.LazyAgenda.cancel.Goals as goal

pub returns-in_default-clause-effect : goal.returns-in_default-clause-effect
returns-in_default-clause-effect g c =
    let none : get_or c.args.self.now.own.queue_of c.args.stamp 0 ≡ 0 = search rules in
    cancels_refused (formed_lazily _ _ _ _ c.requires (strict _ g.met.B.Item.Ordered.laws)) c.args.stamp _ (cancel_none _ _ _ _ c.requires c.args.stamp none c.refusal.result c.refusal.ensures)

pub leave-requires-clause-some : goal.leave-requires-clause-some
leave-requires-clause-some g c =
    let q = c.in-Some.queue in
    let here : get_or c.args.self.now.own.queue_of c.args.stamp 0 ≡ q + 1 = omega (arith, c.in-Some.ensures.0, c.in-Some.ensures.1) in
    let near : q < 32 = omega (arith, here, c.requires.marked.within c.args.stamp) in
    cut_some _ _ _ _ c.requires q c.args.stamp near here

pub returns : goal.returns
returns g c =
    let m = g.B.Store.meaning c.args.self.now.below in
    let law = strict _ g.met.B.Item.Ordered.laws in
    let q = c.in-Some.queue in
    let here : get_or c.args.self.now.own.queue_of c.args.stamp 0 ≡ q + 1 = omega (arith, c.in-Some.ensures.0, c.in-Some.ensures.1) in
    let near : q < 32 = omega (arith, here, c.requires.marked.within c.args.stamp) in
    let p = c.purge.ensures in
    let o = c.leave.ensures in
    let marks = ap (λ (x : Marks). x.queue_of) p.own ∙ o.marks in
    let counts = ap (λ (x : Marks). x.counts) p.own ∙ o.counts in
    let height = ap (λ (x : Marks). x.height) p.own ∙ o.height in
    record {
      sound = cancel_over _ _ _ m c.requires q c.args.stamp near here _ p.sound _ _ _ _ p.effect o.marks marks counts height;
      effect = cancels_lazily _ _ _ m c.requires q c.args.stamp near here _ p.sound _ _ _ _ p.effect o.marks marks counts height law;
      refused = tt;
    }
