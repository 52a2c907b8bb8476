use Rattle.std.proofs.Common.{refl, ◌∙◌}
use Rattle.simulations.proofs.Closing.{fill_none}
use Rattle.workshop.proofs.Workshop.fill.Goals as goal

pub fill-init : goal.fill-init
fill-init g c = (fill_none c.args.j.number _ c.requires.ready.fit, c.requires.ready.sound, (refl, refl, refl, refl, refl))

pub fill-preserved : goal.fill-preserved
fill-preserved g c =
    let i = c.fill.invariant in
    let q = c.fill_turn.ensures in
    (q.turn _ _ i.0, q.sound, (q.same.0 ∙ i.2.0, q.same.1 ∙ i.2.1, q.same.2 ∙ i.2.2, q.same.3 ∙ i.2.3, q.same.4 ∙ i.2.4))
