use Rattle.std.proofs.Common.{sym, ◌∙◌}
use Rattle.elements.proofs.Strictness.{strict}
use Rattle.forests.proofs.Joining.{joined_first, joined_second}
use Rattle.forests.proofs.joins.join.Goals as goal

pub returns-then-precedes : goal.returns-then-precedes
returns-then-precedes g c s t v q =
    let le = g.T.Ordered.le in
    joined_first (g.L.ForestLink.layout le) g.met.L.ForestLink.consistent (strict le g.met.T.Ordered.laws) q _ _ c.index-entries-i.is c.index-entries-j.is (sym c.precedes.ensures ∙ c.if-precedes.true) c.adopt.ensures

pub returns-else-precedes : goal.returns-else-precedes
returns-else-precedes g c s t v q =
    let le = g.T.Ordered.le in
    joined_second (g.L.ForestLink.layout le) g.met.L.ForestLink.consistent (strict le g.met.T.Ordered.laws) q _ _ c.index-entries-i.is c.index-entries-j.is (sym c.precedes.ensures ∙ c.if-precedes.false) c.adopt-else-precedes.ensures
