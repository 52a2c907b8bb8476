use Rattle.std.proofs.Common.{refl}
use Rattle.simulations.proofs.Closing.{fill_starts, fill_rests, fill_on, fill_over}
use Rattle.workshop.proofs.Faults.{no_fault, a_fault}
use Rattle.workshop.proofs.Workshop.fill_turn.Goals as goal

pub returns-then-station-clause-turn : goal.returns-then-station-clause-turn
returns-then-station-clause-turn g c = λ n a p. fill_on n c.args.j.number a _ p refl _ (no_fault _ (c.if-is_none.ensures)) (fill_starts c.args.j.number _ _ c.if-station.true c.start_front.ensures.call)

pub returns-else-station-clause-turn : goal.returns-else-station-clause-turn
returns-else-station-clause-turn g c = λ n a p. fill_on n c.args.j.number a _ p refl _ (no_fault _ (c.if-is_none.ensures)) (fill_rests c.args.j.number _ c.if-station.false c.requires.ready.fit)

pub returns-else-is_none-clause-turn : goal.returns-else-is_none-clause-turn
returns-else-is_none-clause-turn g c = λ n a p. let f = a_fault c.args.self.now.run.now.fault (c.if-is_none.ensures) in fill_over n c.args.j.number a _ p refl f.0 f.1
