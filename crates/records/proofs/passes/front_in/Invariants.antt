use Rattle.records.proofs.Passing.{Sofar}
use Rattle.records.proofs.passes.front_in.Given as goal

abbrev pub invariant-loop-i : goal.invariant-loop-i
invariant-loop-i g l = Sofar g.T.Ordered.le l.queue l.cells l.front l.i
