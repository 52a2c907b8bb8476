use Rattle.std.proofs.Common.{rules}
use Rattle.simulations.proofs.Entering.{enter_start, enter_wait}
use Rattle.workshop.proofs.Workshop.enter.Goals as goal

pub returns-then-station : goal.returns-then-station
returns-then-station g c =
    let p = c.start.ensures.call in
    record {
      sound = search rules;
      call = record { fit = p.fit; few = p.few; outcome = enter_start _ _ _ _ _ c.open_station-r.ensures.answer c.if-station.true p.outcome };
      same = search rules;
    }

pub returns-else-station : goal.returns-else-station
returns-else-station g c =
    let p = c.wait.ensures.call in
    record {
      sound = search rules;
      call = record { fit = p.fit; few = p.few; outcome = enter_wait _ _ _ _ _ c.open_station-r.ensures.answer c.if-station.false p.outcome };
      same = search rules;
    }
