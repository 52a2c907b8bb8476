use Rattle.elements.specs.declared.entries.Entry.{Entry}
use Rattle.elements.specs.Order.{precedes_by}
use Rattle.cells.specs.Trees.{Tree, size, uses}
use Rattle.forests.specs.Forests.{Any, listed}
use Rattle.forests.specs.Parts.{ForestAt, Parted}
use Rattle.forests.proofs.Parting.{extent}
use Rattle.pairing.specs.Pairing.{cells_of}
use Rattle.pairing.proofs.passes.pair_up.Given as goal

abbrev pub invariant-pairs : goal.invariant-pairs
invariant-pairs g l = (t : Tree (Entry g.row.T.Denot)) → ForestAt (cells_of g.T.Ordered.le) Any l.initial.links l.entries l.initial.rest t → Parted (cells_of g.T.Ordered.le) Any Any l.initial.links l.entries (listed (precedes_by g.T.Ordered.le) t) (uses t) (size t) l.links l.rest l.paired

abbrev pub decreases-pairs : goal.decreases-pairs
decreases-pairs g l = extent (cells_of g.T.Ordered.le) l.links l.entries l.rest
