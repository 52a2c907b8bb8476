use Rattle.std.proofs.Common.{◌+◌, refl, ap, ◌∙◌, arith}
use Rattle.journal.specs.Raised.{Over}
use Rattle.journal.specs.Formed.{formed_raised}
use Rattle.journal.proofs.journals.Journal.make.Goals as goal

pub returns : goal.returns
returns g c =
    let m = g.B.Store.meaning c.args.below in
    let h = c.height.ensures.answer in
    let o = c.over-own.ensures in
    let over : Over g.B.Item.Ordered.le (g.B.Store.sound c.args.below) m c.over-own.result = record {
      below = c.requires.sound;
      formed = g.met.B.Store.formed c.args.below c.requires.sound;
      kept = o.kept;
      above = o.height ∙ ap (λ k. k + 1) h;
      low = omega (arith, o.height, h, c.requires.fit.low);
    } in
    record { sound = over; formed = formed_raised over; meaning = refl; used = o.used; history = o.history }
