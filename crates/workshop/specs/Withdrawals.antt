-- The order's own state and the event decide together what a withdrawal finds, and what becomes of the order.
use Rattle.elements.specs.declared.events.EventKind.{EventKind}
use Rattle.elements.specs.declared.events.EventKind.TheVariants.{Arrive, Finish, Withdraw, Close}
use Rattle.machine.specs.declared.networks.OrderState.{OrderState}
use Rattle.machine.specs.declared.networks.OrderState.TheVariants.{NotYet, Waiting, InService, Done, Away, Withdrawn, Stranded}
use Rattle.workshop.specs.declared.withdrawals.Withdrawal.{Withdrawal}
use Rattle.workshop.specs.declared.withdrawals.Withdrawal.TheVariants.{FromLine, FromBench, Missed}

abbrev pub withdrawal : OrderState → EventKind → Withdrawal
withdrawal (Waiting s) (Withdraw i) = FromLine s
withdrawal (Waiting s) (Arrive i k) = Missed
withdrawal (Waiting s) (Finish i k) = Missed
withdrawal (Waiting s) (Close k j) = Missed
withdrawal (InService k s) (Withdraw i) = FromBench k s
withdrawal (InService k s) (Arrive i j) = Missed
withdrawal (InService k s) (Finish i j) = Missed
withdrawal (InService k s) (Close i j) = Missed
withdrawal NotYet e = Missed
withdrawal Done e = Missed
withdrawal Away e = Missed
withdrawal Withdrawn e = Missed
withdrawal Stranded e = Missed

abbrev pub state_after : OrderState → EventKind → OrderState
state_after (Waiting s) (Withdraw i) = Withdrawn
state_after (Waiting s) (Arrive i k) = Waiting s
state_after (Waiting s) (Finish i k) = Waiting s
state_after (Waiting s) (Close k j) = Waiting s
state_after (InService k s) (Withdraw i) = Withdrawn
state_after (InService k s) (Arrive i j) = InService k s
state_after (InService k s) (Finish i j) = InService k s
state_after (InService k s) (Close i j) = InService k s
state_after NotYet e = NotYet
state_after Done e = Done
state_after Away e = Away
state_after Withdrawn e = Withdrawn
state_after Stranded e = Stranded
