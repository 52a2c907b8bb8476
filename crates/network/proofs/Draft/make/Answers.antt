use Rattle.simulations.proofs.Beginning.{begins_fit, begins}
use Rattle.network.proofs.Draft.make.Goals as goal

pub returns-clause-fit : goal.returns-clause-fit
returns-clause-fit g c = begins_fit _ _ _ c.clear.ensures (g.met.E.Store.formed _ c.requires.sound.0) (g.met.O.Store.formed _ c.requires.sound.1) c.requires.unused.events c.requires.unused.lines

pub returns-clause-start : goal.returns-clause-start
returns-clause-start g c = begins _ _ _ c.clear.ensures (g.met.E.Store.formed _ c.requires.sound.0) (g.met.O.Store.formed _ c.requires.sound.1) c.requires.unused.events c.requires.unused.lines
