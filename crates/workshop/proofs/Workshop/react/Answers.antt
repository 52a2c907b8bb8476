use Rattle.std.proofs.Common.{arith, rules}
use Rattle.simulations.proofs.Stepping.{react_as}
use Rattle.workshop.proofs.Workshop.react.Goals as goal

pub returns-in-Arrive : goal.returns-in-Arrive
returns-in-Arrive g c =
    record {
      sound = search rules;
      call = react_as _ _ 1 _ _ c.in-Arrive.is (omega arith) (rw (c.new.ensures.order, c.new-in-Arrive.ensures) at c.enter.ensures.call);
      same = search rules;
    }

pub returns-in-Finish : goal.returns-in-Finish
returns-in-Finish g c =
    record {
      sound = search rules;
      call = react_as _ _ 3 _ _ c.in-Finish.is (omega arith) (rw (c.new-in-Finish.ensures.order, c.new-in-Finish-2.ensures) at c.finish.ensures.call);
      same = search rules;
    }

pub returns-in-Withdraw : goal.returns-in-Withdraw
returns-in-Withdraw g c =
    record {
      sound = search rules;
      call = react_as _ _ 2 _ _ c.in-Withdraw.is (omega arith) c.withdraw.ensures.call;
      same = search rules;
    }

pub returns-in-Close : goal.returns-in-Close
returns-in-Close g c =
    record {
      sound = search rules;
      call = react_as _ _ 9 _ _ c.in-Close.is (omega arith) (rw (c.new-in-Close.ensures, c.new-in-Close-2.ensures) at c.close.ensures.call);
      same = search rules;
    }
