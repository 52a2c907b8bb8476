use Rattle.std.proofs.Common.{rules}
use Rattle.simulations.proofs.Finishing.{leave_enter, leave_done}
use Rattle.workshop.proofs.Workshop.leave.Goals as goal

pub returns-in-Some : goal.returns-in-Some
returns-in-Some g c =
    let p = rw c.new.ensures at c.enter.ensures.call in
    record {
      sound = search rules;
      call = record { fit = p.fit; few = p.few; outcome = leave_enter _ _ _ _ _ _ c.in-Some.j _ c.in-Some.is p.outcome };
      same = search rules;
    }

pub returns-in-None : goal.returns-in-None
returns-in-None g c =
    record {
      sound = search rules;
      call = rw c.complete.ensures (leave_done _ _ _ _ _ _ c.in-None.is c.requires.ready.fit c.requires.place);
      same = search rules;
    }
