use Rattle.std.proofs.Common.{refl, rules}
use Rattle.machine.specs.declared.forms.Form.TheVariants.{End}
use Rattle.simulations.proofs.Forming.{end_formed}
use Rattle.network.proofs.Formed.{fails, passes}
use Rattle.network.proofs.Draft.end.Goals as goal

pub returns-in-Err : goal.returns-in-Err
returns-in-Err g c = record { ends = (fails (End c.args.at) c.args.self.net.now (g.E.Store.meaning c.args.events.now) (g.O.Store.meaning c.args.orders.now) c.requires.fit _ _ c.issued.ensures.answer c.check.ensures _ c.in-Err.is, refl) }

pub returns : goal.returns
returns g c =
    let h = c.requires.fit in
    let n = c.args.self.net.now in
    let m = g.E.Store.meaning c.args.events.now in
    let l = g.O.Store.meaning c.args.orders.now in
    record {
      ends = record {
        fit = record { network = h.network; instant = h.instant; end = search rules; events = h.events; lines = h.lines };
        whole = end_formed n m l h c.args.at (passes (End c.args.at) n m l h _ _ c.issued.ensures.answer c.check.ensures _ c.in_default.is);
        not_over = refl;
      };
    }
