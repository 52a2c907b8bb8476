-- The store stays sound.
use Rattle.heap_tests.proofs.calls.run.Given as goal

abbrev pub invariant-loop-call : goal.invariant-loop-call
invariant-loop-call g l = g.S.Store.sound l.store
