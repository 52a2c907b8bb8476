use Rattle.std.proofs.Common.{sym, refl, ◌∙◌, rules}
use Rattle.simulations.proofs.Stepping.{took_due, step_rests, step_happens}
use Rattle.workshop.proofs.Workshop.advance.Goals as goal

pub returns-in-Some-clause-works : goal.returns-in-Some-clause-works
returns-in-Some-clause-works g c =
    let e = sym c.due-due.ensures.answer ∙ c.in-Some.is in
    record {
      sound = search rules;
      call = step_happens _ _ _ _ c.requires.ready.fit refl c.in-Some.event e _ _ (took_due _ _ _ _ c.requires.ready.fit refl c.in-Some.event e _ _ c.take.ensures.effect) _ c.react.ensures.call;
      same = search rules;
    }

pub returns-in_default-clause-works : goal.returns-in_default-clause-works
returns-in_default-clause-works g c =
    record {
      sound = search rules;
      call = step_rests _ _ _ _ c.requires.ready.fit refl (sym c.due-due.ensures.answer ∙ c.in_default.is);
      same = search rules;
    }
