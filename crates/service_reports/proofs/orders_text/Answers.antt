use Rattle.std.proofs.Common.{vec_items, string_bytes}
use Rattle.service_reports.proofs.Reporting.{told_served, shown_served, told_unserved, shown_unserved}
use Rattle.service_reports.proofs.orders_text.Goals as goal

pub returns-in-Ok : goal.returns-in-Ok
returns-in-Ok g c =
    let m = g.A.Store.meaning c.args.line.now in
    let n = g.A.Store.meaning c.order_of_service.new.line in
    let xs = c.args.orders.now in
    let ys = vec_items c.in-Ok.served in
    record {
      sound = c.order_of_service.ensures.sound;
      effect = told_served string_bytes _ xs ys _ c.deref.ensures.value c.service_text.ensures m n c.in-Ok.ensures.effect;
      unused = λ u. shown_served string_bytes _ xs ys _ c.deref.ensures.value c.service_text.ensures m.fixed.cells m.fixed.stamps (c.in-Ok.ensures.unused u);
    }

pub returns-in-Err : goal.returns-in-Err
returns-in-Err g c =
    let m = g.A.Store.meaning c.args.line.now in
    let n = g.A.Store.meaning c.order_of_service.new.line in
    let xs = c.args.orders.now in
    record {
      sound = c.order_of_service.ensures.sound;
      effect = told_unserved string_bytes _ xs m n c.in-Err.failure c.in-Err.ensures.effect c.unserved_text.ensures;
      unused = λ u. shown_unserved string_bytes _ xs m.fixed.cells m.fixed.stamps c.in-Err.failure (c.in-Err.ensures.unused u) c.unserved_text.ensures;
    }
