use Rattle.std.proofs.Common.{refl, arith, length-set}
use Rattle.cells.proofs.IdleCells.{idle_none, idle_more}
use Rattle.heap_store.proofs.idle.make_idle.Goals as goal

pub loop-i-init : goal.loop-i-init
loop-i-init g c = let F = g.L.HeapLink.form g.T.Ordered.le in (c.requires, idle_none F.none F.idle _ _ refl)

pub loop-i-preserved : goal.loop-i-preserved
loop-i-preserved g c =
    let F = g.L.HeapLink.form g.T.Ordered.le in
    (simp length-set (omega (arith, c.loop-i.invariant.0)), idle_more F.none F.idle _ _ _ c.idle.ensures c.loop-i.i _ (omega (arith, c.loop-i-test.true)) c.loop-i.invariant.1)
