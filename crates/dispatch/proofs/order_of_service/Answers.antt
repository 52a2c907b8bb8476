use Rattle.std.proofs.Common.{◌≡◌, Err, vec_items, rules}
use Rattle.elements.specs.Elements.{line_le}
use Rattle.elements.proofs.Strictness.{strict}
use Rattle.dispatch.specs.declared.Failure.TheVariants.{Refused, NoMemory}
use Rattle.dispatch.proofs.Sorting.{line_laws}
use Rattle.dispatch.proofs.UnusedStores.{enough, served_in_order, hindered}
use Rattle.dispatch.proofs.order_of_service.Goals as goal

pub returns-in_err-admit-clause-unused : goal.returns-in_err-admit-clause-unused
returns-in_err-admit-clause-unused g c u =
    let told : c.from_residual.result ≡ Err (Refused c.in_err-admit.field-0.0) = search rules in
    rw told (hindered line_le (strict line_le line_laws) (g.A.Store.meaning c.args.line.now) u c.args.orders.now (g.A.Store.meaning c.admit.new.line) c.in_err-admit.field-0.0 c.in_err-admit.ensures.effect)

pub returns-in_err-serve-clause-unused : goal.returns-in_err-serve-clause-unused
returns-in_err-serve-clause-unused g c u =
    let told : c.from_residual-in_err-serve.result ≡ Err NoMemory = search rules in
    rw told (enough line_le (strict line_le line_laws) (g.A.Store.meaning c.args.line.now) u c.args.orders.now (g.A.Store.meaning c.admit.new.line) c.in_ok-admit.ensures.effect)

pub returns-clause-unused : goal.returns-clause-unused
returns-clause-unused g c u =
    let law = strict line_le line_laws in
    let m = g.A.Store.meaning c.args.line.now in
    let k = g.A.Store.meaning c.admit.new.line in
    let xs = c.args.orders.now in
    let admitted = c.in_ok-admit.ensures.effect in
    (enough line_le law m u xs k admitted, served_in_order line_le law m u xs k admitted (g.A.Store.meaning c.serve.new.line) (vec_items c.in_ok-serve.field-0) c.in_ok-serve.ensures.effect)
