-- The store stays sound.
use Rattle.heap_tests.proofs.trials.AscendingTrial.run.Given as goal

abbrev pub invariant-loop-i : goal.invariant-loop-i
invariant-loop-i g l = g.S.Store.sound l.store
