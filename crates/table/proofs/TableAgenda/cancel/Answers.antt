use Rattle.table.proofs.Changing.{cancel_none, cancel_done}
use Rattle.table.proofs.TableAgenda.cancel.Goals as goal

pub returns-in_default-clause-effect : goal.returns-in_default-clause-effect
returns-in_default-clause-effect g c = cancel_none c.requires g.T.Ordered.le g.met.T.Ordered.laws c.args.stamp c.in_default.ensures

pub returns : goal.returns
returns g c =
    let done = cancel_done c.requires g.T.Ordered.le g.met.T.Ordered.laws c.args.stamp c.in-Some.i c.in-Some.record c.in-Some.ensures c.write.ensures in
    record { sound = done.sound; effect = done.effect; refused = tt }
