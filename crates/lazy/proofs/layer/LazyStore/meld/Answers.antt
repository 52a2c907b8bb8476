use Rattle.std.proofs.Common.{◌≡◌, Err, arith, rules}
use Rattle.elements.proofs.Strictness.{strict}
use Rattle.cancelled.proofs.Layer.{counts_few}
use Rattle.cancelled.proofs.Melding.{meld_apart, meld_over, melds_lazily}
use Rattle.cancelled.proofs.Refusing.{melds_refused_lazily}
use Rattle.lazy.proofs.layer.LazyStore.meld.Goals as goal

pub returns-in_err-meld-clause-effect : goal.returns-in_err-meld-clause-effect
returns-in_err-meld-clause-effect g c =
    let told : c.from_residual.result ≡ Err c.in_err-meld.field-0.0 = search rules in
    rw told (melds_refused_lazily _ _ _ (g.B.Store.meaning c.args.self.now.below) c.requires _ (strict _ g.met.B.Item.Ordered.laws) c.args.into c.args.from _ c.in_err-meld.ensures.effect)

pub join-requires-clause-room : goal.join-requires-clause-room
join-requires-clause-room g c =
    let k = meld_apart _ _ _ _ c.requires c.args.into c.args.from _ c.in_ok-meld.ensures.effect.answer in
    omega (arith, counts_few _ _ _ _ c.requires c.args.into c.args.from k.2)

pub returns : goal.returns
returns g c =
    let m = g.B.Store.meaning c.args.self.now.below in
    let law = strict _ g.met.B.Item.Ordered.laws in
    let e = c.in_ok-meld.ensures in
    let bare = g.met.B.BareHeap.bare _ e.sound in
    let o = c.join.ensures in
    record {
      sound = meld_over _ _ _ m c.requires c.args.into c.args.from _ e.effect.answer law _ e.sound e.effect bare _ _ _ o.marks o.counts o.height;
      effect = melds_lazily _ _ _ m c.requires c.args.into c.args.from _ e.effect.answer law _ e.sound e.effect bare _ _ _ o.marks o.counts o.height c.join.result o.moved;
      refused = tt;
    }
