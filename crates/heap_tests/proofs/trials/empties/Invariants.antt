-- The store stays sound.
use Rattle.heap_tests.proofs.trials.empties.Given as goal

abbrev pub invariant-loop-time : goal.invariant-loop-time
invariant-loop-time g l = g.S.Store.sound l.store
