use Rattle.std.proofs.Common.{refl, rules}
use Rattle.machine.specs.declared.forms.Form.TheVariants.{Order as an-order}
use Rattle.elements.specs.declared.events.EventKind.TheVariants.{Arrive}
use Rattle.machine.specs.Network.{with_new_order}
use Rattle.machine.specs.Forms.{ordered, new_order}
use Rattle.simulations.proofs.Forming.{orders_one, new_order_fit}
use Rattle.network.proofs.Formed.{fails_by, store_takes, store_refuses_by}
use Rattle.network.proofs.Draft.order.Goals as goal

pub returns-in_err-check-clause-forms : goal.returns-in_err-check-clause-forms
returns-in_err-check-clause-forms g c =
    let a = c.args in
    fails_by (an-order a.order a.at a.urgency a.due a.start) a.self.now.net.now (g.E.Store.meaning a.events.now) (g.O.Store.meaning a.orders.now) c.requires.fit _ _ c.issued.ensures.answer c.check.ensures _ c.in_err-check.was _ c.from_residual.ensures.1

pub returns-in_err-announce-clause-forms : goal.returns-in_err-announce-clause-forms
returns-in_err-announce-clause-forms g c =
    let a = c.args in
    let f = an-order a.order a.at a.urgency a.due a.start in
    let n = a.self.now.net.now in
    let m = g.E.Store.meaning a.events.now in
    let l = g.O.Store.meaning a.orders.now in
    let o = new_order a.urgency a.due a.start in
    store_refuses_by f n m l c.requires.fit _ _ c.issued.ensures.answer c.check.ensures _ c.in_ok-check.was (ordered a.order o) (λ y. with_new_order y a.order o) (orders_one a.order o) a.at (Arrive a.order a.start) (λ v. refl) (search rules) _ _ c.in_err-announce.ensures.put _ c.from_residual-in_err-announce.ensures.1

pub returns-clause-forms : goal.returns-clause-forms
returns-clause-forms g c =
    let a = c.args in
    let f = an-order a.order a.at a.urgency a.due a.start in
    let n = a.self.now.net.now in
    let m = g.E.Store.meaning a.events.now in
    let l = g.O.Store.meaning a.orders.now in
    let o = new_order a.urgency a.due a.start in
    store_takes f n m l c.requires.fit _ _ c.issued.ensures.answer c.check.ensures _ c.in_ok-check.was (ordered a.order o) (λ y. with_new_order y a.order o) (orders_one a.order o) a.at (Arrive a.order a.start) (λ v. refl) (search rules) _ c.in_ok-announce.ensures.put (new_order_fit _ _ _ _ n c.requires.fit.network) _ c.add_order.ensures
