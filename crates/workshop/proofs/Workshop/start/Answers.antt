use Rattle.std.proofs.Common.{rules}
use Rattle.simulations.proofs.Spending.{start_accepted, start_refused}
use Rattle.workshop.proofs.Workshop.start.Goals as goal

pub returns-in-Ok : goal.returns-in-Ok
returns-in-Ok g c =
    let r = c.requires in
    record {
      sound = search rules;
      call = rw c.begin.ensures (start_accepted _ _ _ _ _ _ c.args.hand.known c.args.k.known r.ready.fit _ _ r.place r.bench c.in-Ok.ensures.effect);
      same = search rules;
    }

pub returns-in-Err : goal.returns-in-Err
returns-in-Err g c =
    let r = c.requires in
    record {
      sound = search rules;
      call = rw (c.strand.ensures, c.fail.ensures) (start_refused _ _ _ _ _ _ c.args.hand.known c.args.k.known r.ready.fit _ _ c.in-Err.ensures.effect);
      same = search rules;
    }
