use Rattle.std.proofs.Common.{refl}
use Rattle.records.proofs.Passing.{sofar_here, sofar_more, sofar_all}
use Rattle.records.proofs.passes.front_in.Goals as goal
use Rattle.records.proofs.passes.front_in.Goals.{in-Some, in_default}

pub loop-i-init : goal.loop-i-init
loop-i-init g c = refl

pub loop-i-preserved : goal.loop-i-preserved
loop-i-preserved g c =
    elim c.match-entry_in.branch [
      | in-Some w ↦ sofar_here g.T.Ordered.le g.met.T.Ordered.laws c.args.queue c.args.cells.now c.loop-i.i c.index-cells-i.result c.loop-i-test.true c.index-cells-i.is w.in-Some.entry w.in-Some.ensures c.loop-i.front c.match-entry_in.front w.earlier.result c.loop-i.invariant w.earlier.ensures w.front-is
      | in_default w ↦ sofar_more g.T.Ordered.le g.met.T.Ordered.laws c.args.queue c.args.cells.now c.loop-i.i c.index-cells-i.result c.loop-i-test.true c.index-cells-i.is c.loop-i.front c.match-entry_in.front c.loop-i.invariant w.in_default.ensures w.front-is
    ]

pub returns : goal.returns
returns g c = sofar_all g.T.Ordered.le g.met.T.Ordered.laws c.args.queue c.args.cells.now c.loop-i.front c.loop-i.i c.loop-i-test.false c.loop-i.invariant
