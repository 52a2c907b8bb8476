use Rattle.std.proofs.Common.{subst}
use Rattle.scanner.specs.Templates.{Scans}
use Rattle.waiting_orders.specs.Forms.{order_form}
use Rattle.waiting_orders.proofs.Reading.{order_read}
use Rattle.waiting_orders.proofs.read_order.Goals as goal

pub returns : goal.returns
returns c =
    let i = c.if-order-gt-LARGEST_ORDER.false in
    let u = c.if-urgency-gt-LEAST_URGENT.false in
    let v = c.if-due-gt-LATEST_DUE.false in
    let line = c.args.line.now in
    let read = subst (Scans 3 order_form line) c.in_ok-order.ensures.ok_part c.scan.ensures in
    (order_read line c.in_ok-order.field-0 read i u v, (i, u, v))
