use Rattle.std.proofs.Common.{◌+◌, ap, ◌∙◌}
use Rattle.elements.proofs.Strictness.{strict}
use Rattle.cancelled.proofs.Layer.{formed_lazily}
use Rattle.cancelled.proofs.Making.{made_over, made_meaning}
use Rattle.lazy.proofs.layer.Lazy.make.Goals as goal

pub returns : goal.returns
returns g c =
    let m = g.B.Store.meaning c.args.below in
    let p = c.requires in
    let f = g.met.B.Store.formed _ p.sound in
    let b = g.met.B.BareHeap.bare _ p.sound in
    let o = c.over-own.ensures in
    let h = o.height ∙ ap (λ k. k + 1) c.height.ensures.answer in
    let over = made_over m f b p.fit _ _ _ o.marks o.counts h p.sound in
    record {
      sound = over;
      formed = formed_lazily _ _ _ m over (strict _ g.met.B.Item.Ordered.laws);
      meaning = made_meaning m f b p.fit _ _ _ o.marks o.counts h;
    }
