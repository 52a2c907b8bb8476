use Rattle.std.proofs.Common.{sym, ◌∙◌, arith, rules}
use Rattle.simulations.proofs.Closing.{apart, shut_fit, close_fills, close_kept}
use Rattle.workshop.proofs.Workshop.close.Goals as goal

pub returns-then-stays_open : goal.returns-then-stays_open
returns-then-stays_open g c =
    record {
      sound = search rules;
      call = rw c.note.ensures (close_kept _ _ _ _ _ _ (sym (sym c.if-stays_open.true ∙ c.stays_open.ensures.answer)) (omega (arith, c.requires.places)) c.requires.ready.fit);
      same = search rules;
    }

pub fill-requires-clause-ready : goal.fill-requires-clause-ready
fill-requires-clause-ready g c =
    let r = c.requires in
    let p = c.in-Ok.ensures in
    let ne = apart c.args.k.number c.args.j.number c.args.self.now.net.now (sym (sym c.if-stays_open.false ∙ c.stays_open.ensures.answer)) in
    rw c.shut.ensures (record { sound = (r.ready.sound.0, p.sound); fit = shut_fit _ _ c.args.k.known c.args.j.known ne _ _ _ _ r.ready.fit _ _ p.effect })

pub returns-in-Ok : goal.returns-in-Ok
returns-in-Ok g c =
    let r = c.requires in
    let open_is = sym (sym c.if-stays_open.false ∙ c.stays_open.ensures.answer) in
    let ne = apart c.args.k.number c.args.j.number c.args.self.now.net.now open_is in
    record {
      sound = search rules;
      call = close_fills _ _ c.args.k.known c.args.j.known ne _ _ _ _ r.ready.fit _ _ c.in-Ok.ensures.effect open_is (omega (arith, r.places)) _ (rw c.shut.ensures at c.fill.ensures.call);
      same = search rules;
    }
