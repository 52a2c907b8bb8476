use Rattle.std.proofs.Common.{◌≡◌, Err, arith, rules}
use Rattle.elements.proofs.Strictness.{strict}
use Rattle.cancelled.proofs.Layer.{count_few}
use Rattle.cancelled.proofs.Putting.{put_over, puts_lazily}
use Rattle.cancelled.proofs.Refusing.{puts_refused_lazily}
use Rattle.lazy.proofs.layer.LazyStore.put.Goals as goal

pub returns-in_err-stamp-clause-effect : goal.returns-in_err-stamp-clause-effect
returns-in_err-stamp-clause-effect g c =
    let told : c.from_residual.result ≡ Err c.in_err-stamp.field-0.0 = search rules in
    rw told (puts_refused_lazily _ _ _ (g.B.Store.meaning c.args.self.now.below) c.requires _ (strict _ g.met.B.Item.Ordered.laws) c.args.queue c.args.element _ c.in_err-stamp.ensures.effect)

pub enter-requires-clause-room : goal.enter-requires-clause-room
enter-requires-clause-room g c = omega (arith, count_few _ _ _ _ c.requires c.args.queue)

pub returns : goal.returns
returns g c =
    let m = g.B.Store.meaning c.args.self.now.below in
    let law = strict _ g.met.B.Item.Ordered.laws in
    let e = c.in_ok-stamp.ensures in
    let bare = g.met.B.BareHeap.bare _ e.sound in
    let o = c.enter.ensures in
    record {
      sound = put_over _ _ _ m c.requires c.args.queue c.in_ok-stamp.stamp e.effect.answer law c.args.element _ e.sound e.effect bare _ _ _ o.marks o.counts o.height;
      effect = puts_lazily _ _ _ m c.requires c.args.queue c.in_ok-stamp.stamp e.effect.answer law c.args.element _ e.sound e.effect bare _ _ _ o.marks o.counts o.height;
      refused = tt;
    }
