use Rattle.store_checks.proofs.scripts.passes.Given as goal

abbrev pub invariant-loop-asked : goal.invariant-loop-asked
invariant-loop-asked g l = g.A.Store.sound l.store
