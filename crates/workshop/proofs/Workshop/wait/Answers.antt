use Rattle.std.proofs.Common.{sym, ap, rules}
use Rattle.machine.specs.Step.{at_limit}
use Rattle.simulations.proofs.Spending.{wait_accepted, wait_turned, wait_refused}
use Rattle.workshop.proofs.Limits.{no_limit}
use Rattle.workshop.proofs.Workshop.wait.Goals as goal

pub returns-in-Ok : goal.returns-in-Ok
returns-in-Ok g c =
    let r = c.requires in
    record {
      sound = search rules;
      call = rw c.line_up.ensures (wait_accepted _ _ _ _ _ _ c.args.hand.known c.args.k.known r.ready.fit _ _ r.place c.in-Ok.ensures.effect);
      same = search rules;
    }

pub returns-in-AtLimit : goal.returns-in-AtLimit
returns-in-AtLimit g c =
    let r = c.requires in
    record {
      sound = search rules;
      call = rw c.send_away.ensures (wait_turned _ _ _ _ _ _ c.args.hand.known c.args.k.known r.ready.fit _ _ (sym (ap at_limit c.in-AtLimit.is)) r.place c.in-Err.ensures.effect);
      same = search rules;
    }

pub returns-in_default : goal.returns-in_default
returns-in_default g c =
    let r = c.requires in
    record {
      sound = search rules;
      call = rw (c.strand.ensures, c.fail.ensures) (wait_refused _ _ _ _ _ _ c.args.hand.known c.args.k.known r.ready.fit _ _ (no_limit _ c.in_default.not-AtLimit) c.in-Err.ensures.effect);
      same = search rules;
    }
