use Rattle.std.proofs.Common.{refl, ap, ◌∙◌, arith}
use Rattle.machine.specs.Step.{step, told_by}
use Rattle.outcomes.proofs.Cells.{enough_suffice}
use Rattle.workshop.proofs.Workshop.step.Goals as goal

pub returns-clause-steps : goal.returns-clause-steps
returns-clause-steps g c =
    let p = c.advance-taken.ensures in
    record {
      enough = c.requires.places;
      fit = p.works.call.fit;
      whole = enough_suffice step _ _ p.works.call.outcome;
      written = refl;
      few = omega (arith, p.works.call.few, c.requires.first);
      told = c.progress.ensures.answer ∙ ap (told_by c.advance-taken.new.self.run.now.fault) p.answer;
    }
