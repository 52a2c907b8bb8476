use Rattle.std.proofs.Common.{map, take, ap, ◌∙◌, arith, length-take}
use Rattle.std.proofs.lemmas.List.{length-map}
use Rattle.std.proofs.lemmas.Iterator.{YieldsList-from_slice, YieldsList-from_take}
use Rattle.std.proofs.lemmas.Iterator.Consumers.{YieldsList-turn, YieldsList-end}
use Rattle.machine.specs.Closing.{totals_of}
use Rattle.closing.specs.Counting.{whole}
use Rattle.closing.proofs.Counting.{whole_is}
use Rattle.closing.proofs.totals.Goals as goal

pub add-requires : goal.add-requires
add-requires c =
    let orders = c.args.network.now.orders in
    let t = YieldsList-turn (YieldsList-from_take c.from-declared.result (YieldsList-from_slice orders cc) cc) c.loop-order.yielded _ c.loop-order.yielded_by _ _ c.in-Some.order c.in-Some.is c.next.ensures.steps in
    omega (arith, ap whole c.loop-order.invariant, whole_is (map (λ x. x.now) c.loop-order.yielded), length-map c.loop-order.yielded (λ x. x.now), t.0, length-take c.from-declared.result orders)

pub returns : goal.returns
returns c =
    let orders = c.args.network.now.orders in
    let t = YieldsList-end (YieldsList-from_take c.from-declared.result (YieldsList-from_slice orders cc) cc) c.loop-order.yielded _ c.loop-order.yielded_by _ _ c.in-None.is c.next.ensures.steps in
    c.loop-order.invariant ∙ ap totals_of (t.0 ∙ ap (λ n. take n orders) c.from-declared.ensures)
