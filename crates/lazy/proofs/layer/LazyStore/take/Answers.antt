use Rattle.std.proofs.Common.{◌≡◌, Ok, Err, sym, ap, ◌∙◌, rules}
use Rattle.elements.proofs.Strictness.{strict}
use Rattle.cancelled.proofs.Cutting.{cut_some}
use Rattle.cancelled.proofs.Taking.{take_near, take_here, take_over, takes_lazily}
use Rattle.cancelled.proofs.Refusing.{takes_refused_lazily, takes_none_lazily}
use Rattle.lazy.specs.declared.marking.Marks.{Marks}
use Rattle.lazy.proofs.layer.LazyStore.take.Goals as goal

pub returns-in_err-entry-clause-effect : goal.returns-in_err-entry-clause-effect
returns-in_err-entry-clause-effect g c =
    let told : c.from_residual.result ≡ Err c.in_err-entry.field-0.0 = search rules in
    rw told (takes_refused_lazily _ _ _ (g.B.Store.meaning c.args.self.now.below) c.requires _ (strict _ g.met.B.Item.Ordered.laws) c.args.queue _ c.in_err-entry.ensures.effect)

pub returns-in_default-clause-effect : goal.returns-in_default-clause-effect
returns-in_default-clause-effect g c = takes_none_lazily _ _ _ (g.B.Store.meaning c.args.self.now.below) c.requires _ (strict _ g.met.B.Item.Ordered.laws) c.args.queue _ c.in_default.is c.in_ok-entry.ensures.effect

pub leave-requires-clause-some : goal.leave-requires-clause-some
leave-requires-clause-some g c =
    let q = c.args.queue in
    let e = c.in-Some.entry in
    let ok = ap Ok (sym c.in-Some.is) ∙ c.in_ok-entry.ensures.effect.answer in
    cut_some _ _ _ _ c.requires q e.stamp (take_near _ _ _ _ c.requires q e ok) (take_here _ _ _ _ c.requires q e ok)

pub returns : goal.returns
returns g c =
    let m = g.B.Store.meaning c.args.self.now.below in
    let law = strict _ g.met.B.Item.Ordered.laws in
    let e = c.in_ok-entry.ensures in
    let p = c.purge.ensures in
    let o = c.leave.ensures in
    let ok = ap Ok (sym c.in-Some.is) ∙ e.effect.answer in
    let marks = ap (λ (x : Marks). x.queue_of) p.own ∙ o.marks in
    let counts = ap (λ (x : Marks). x.counts) p.own ∙ o.counts in
    let height = ap (λ (x : Marks). x.height) p.own ∙ o.height in
    record {
      sound = take_over _ _ _ m c.requires c.args.queue c.in-Some.entry ok _ _ p.sound _ _ _ _ c.in-Some.is e.effect _ p.effect o.marks marks counts height;
      effect = takes_lazily _ _ _ m c.requires c.args.queue c.in-Some.entry ok _ _ p.sound _ _ _ _ c.in-Some.is e.effect _ p.effect o.marks marks counts height law;
      refused = tt;
    }
