-- The store stays sound.
use Rattle.heap_tests.proofs.trials.gathers.Given as goal

abbrev pub invariant-loop-queue : goal.invariant-loop-queue
invariant-loop-queue g l = g.S.Store.sound l.store
