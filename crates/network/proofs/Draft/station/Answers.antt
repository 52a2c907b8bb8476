use Rattle.std.proofs.Common.{ℕ, Option, ap, ◌∙◌, rules}
use Rattle.machine.specs.declared.forms.Form.TheVariants.{Station as a-station}
use Rattle.machine.specs.Network.{with_new_station}
use Rattle.machine.specs.Forms.{new_station}
use Rattle.simulations.proofs.Forming.{station_formed}
use Rattle.network.proofs.Formed.{fails_by, passes}
use Rattle.network.proofs.Draft.station.Goals as goal

pub returns-in_err-check-clause-forms : goal.returns-in_err-check-clause-forms
returns-in_err-check-clause-forms g c =
    let a = c.args in
    fails_by (a-station a.station a.benches a.takes a.holds a.next) a.self.now.net.now (g.E.Store.meaning a.events.now) (g.O.Store.meaning a.orders.now) c.requires.fit _ _ c.issued.ensures.answer c.check.ensures _ c.in_err-check.was _ c.from_residual.ensures.1

pub returns-clause-forms : goal.returns-clause-forms
returns-clause-forms g c =
    let a = c.args in
    let f = a-station a.station a.benches a.takes a.holds a.next in
    let n = a.self.now.net.now in
    let m = g.E.Store.meaning a.events.now in
    let l = g.O.Store.meaning a.orders.now in
    station_formed n m l c.requires.fit _ _ _ _ _ (passes f n m l c.requires.fit _ _ c.issued.ensures.answer c.check.ensures _ c.in_ok-check.was) (search rules) _ (c.add_station.ensures ∙ ap (λ (o : Option ℕ). with_new_station n a.station (new_station a.benches a.takes a.holds o)) c.narrowed.ensures)
