use Rattle.std.proofs.Common.{refl, rules}
use Rattle.machine.specs.declared.forms.Form.TheVariants.{Close as a-closing}
use Rattle.elements.specs.declared.events.EventKind.TheVariants.{Close}
use Rattle.network.proofs.Formed.{fails_by, only_announces}
use Rattle.network.proofs.Draft.close.Goals as goal

pub returns-in_err-check-clause-forms : goal.returns-in_err-check-clause-forms
returns-in_err-check-clause-forms g c =
    let a = c.args in
    fails_by (a-closing a.station a.at a.into) a.self.now.net.now (g.E.Store.meaning a.events.now) (g.O.Store.meaning a.orders.now) c.requires.fit _ _ c.issued.ensures.answer c.check.ensures _ c.in_err-check.was _ c.from_residual.ensures.1

pub returns-clause-forms : goal.returns-clause-forms
returns-clause-forms g c =
    let a = c.args in
    let f = a-closing a.station a.at a.into in
    let n = a.self.now.net.now in
    let m = g.E.Store.meaning a.events.now in
    let l = g.O.Store.meaning a.orders.now in
    only_announces f n m l c.requires.fit _ _ c.issued.ensures.answer c.check.ensures _ c.in_ok-check.was a.at (Close a.station a.into) (λ v. refl) (search rules) _ _ c.announce.ensures.put
