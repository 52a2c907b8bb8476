-- The children left are of the degrees below some k, and those turned over of rising degrees from k on.
use Rattle.std.proofs.Common.{ℕ, List}
use Rattle.elements.specs.declared.entries.Entry.{Entry}
use Rattle.elements.specs.Order.{precedes_by}
use Rattle.cells.specs.Trees.{Tree, size, uses}
use Rattle.forests.specs.Forests.{listed}
use Rattle.forests.specs.Parts.{ForestAt, Parted}
use Rattle.binomial.specs.Binomial.{Children, Rising, cells_of}
use Rattle.binomial.proofs.Turning.{left}
use Rattle.binomial.proofs.roots.turn_over.Given as goal

abbrev pub invariant-children : goal.invariant-children
invariant-children g l = (es : List (Entry g.row.T.Denot)) (k : ℕ) (t : Tree (Entry g.row.T.Denot)) → ForestAt (cells_of g.T.Ordered.le) (Children k) l.initial.links es l.initial.rest t → (m : ℕ) × Parted (cells_of g.T.Ordered.le) (Children m) (Rising m) l.initial.links es (listed (precedes_by g.T.Ordered.le) t) (uses t) (size t) l.links l.rest l.turned

abbrev pub decreases-children : goal.decreases-children
decreases-children g l = left l.links l.rest
