use Rattle.std.proofs.Common.{◌≡◌, ◌+◌, length, ap, ◌∙◌, arith, rules}
use Rattle.quota.specs.Limiting.{with_limits, Over}
use Rattle.quota.specs.Formed.{formed_with_limits}
use Rattle.quota.proofs.Quota.make.Goals as goal

pub returns : goal.returns
returns g c =
    let m = g.B.Store.meaning c.args.below in
    let h = c.height.ensures.answer in
    let o = c.over-own.ensures in
    let long : length c.args.limits ≡ 32 = search rules in
    let over : Over g.B.Item.Ordered.le (g.B.Store.sound c.args.below) m c.over-own.result.limits c.over-own.result.height = record {
      below = c.requires.sound;
      formed = g.met.B.Store.formed c.args.below c.requires.sound;
      own = ap length o.limits ∙ long;
      above = o.height ∙ ap (λ k. k + 1) h;
      low = omega (arith, o.height, h, c.requires.fit.low);
    } in
    record { sound = over; formed = formed_with_limits over; meaning = ap (λ ls. with_limits ls m) o.limits }
