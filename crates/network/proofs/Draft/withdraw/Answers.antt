use Rattle.std.proofs.Common.{refl, rules}
use Rattle.machine.specs.declared.forms.Form.TheVariants.{Withdraw as a-withdrawal}
use Rattle.elements.specs.declared.events.EventKind.TheVariants.{Withdraw}
use Rattle.network.proofs.Formed.{fails_by, only_announces}
use Rattle.network.proofs.Draft.withdraw.Goals as goal

pub returns-in_err-check-clause-forms : goal.returns-in_err-check-clause-forms
returns-in_err-check-clause-forms g c =
    let a = c.args in
    fails_by (a-withdrawal a.order a.at) a.self.now.net.now (g.E.Store.meaning a.events.now) (g.O.Store.meaning a.orders.now) c.requires.fit _ _ c.issued.ensures.answer c.check.ensures _ c.in_err-check.was _ c.from_residual.ensures.1

pub returns-clause-forms : goal.returns-clause-forms
returns-clause-forms g c =
    let a = c.args in
    let f = a-withdrawal a.order a.at in
    let n = a.self.now.net.now in
    let m = g.E.Store.meaning a.events.now in
    let l = g.O.Store.meaning a.orders.now in
    only_announces f n m l c.requires.fit _ _ c.issued.ensures.answer c.check.ensures _ c.in_ok-check.was a.at (Withdraw a.order) (λ v. refl) (search rules) _ _ c.announce.ensures.put
