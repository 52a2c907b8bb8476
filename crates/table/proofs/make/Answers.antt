use Rattle.std.proofs.Common.{length, refl}
use Rattle.records.proofs.Standing.{formed}
use Rattle.table.proofs.Standing.{made_sound, made_fresh}
use Rattle.table.proofs.make.Goals as goal

pub returns : goal.returns
returns g c =
    let sound = made_sound (length c.args.slice.now) c.args.sizes.cells c.args.sizes.stamps c.clear.new.cells c.requires c.clear.ensures in
    record {
      sound = sound;
      formed = formed sound g.T.Ordered.le g.met.T.Ordered.laws;
      meaning = made_fresh (length c.args.slice.now) c.args.sizes.cells c.args.sizes.stamps c.clear.new.cells c.requires c.clear.ensures g.T.Ordered.le;
      lent = refl;
    }
