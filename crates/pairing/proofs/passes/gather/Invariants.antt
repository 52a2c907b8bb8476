use Rattle.elements.specs.declared.entries.Entry.{Entry}
use Rattle.elements.specs.Order.{precedes_by}
use Rattle.cells.specs.Trees.{Tree, size, uses}
use Rattle.forests.specs.Forests.{Any, listed}
use Rattle.forests.specs.Parts.{ForestAt, Parted}
use Rattle.forests.proofs.Parting.{extent}
use Rattle.pairing.specs.Pairing.{Alone, cells_of}
use Rattle.pairing.proofs.passes.gather.Given as goal

abbrev pub invariant-trees : goal.invariant-trees
invariant-trees g l = (t : Tree (Entry g.row.T.Denot)) → ForestAt (cells_of g.T.Ordered.le) Any l.initial.links l.entries l.initial.rest t → Parted (cells_of g.T.Ordered.le) Any Alone l.initial.links l.entries (listed (precedes_by g.T.Ordered.le) t) (uses t) (size t) l.links l.rest l.whole

abbrev pub decreases-trees : goal.decreases-trees
decreases-trees g l = extent (cells_of g.T.Ordered.le) l.links l.entries l.rest
