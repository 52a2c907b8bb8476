use Rattle.machine.specs.Step.{fill}
use Rattle.simulations.specs.Calls.{Call}
use Rattle.workshop.specs.Workshop.{simulated, Sound, Same}
use Rattle.workshop.proofs.Workshop.fill.Given as goal

abbrev pub invariant-fill : goal.invariant-fill
invariant-fill g l =
    Call (fill l._turn l.j.number) l._turn (simulated g.E.Store.meaning g.O.Store.meaning l.initial.self) (simulated g.E.Store.meaning g.O.Store.meaning l.self)
    × Sound g.E.Store.sound g.O.Store.sound l.self
    × Same l.initial.self l.self
