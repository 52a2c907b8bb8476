-- The heaps of a consistent layout have what is asked of every form of heap.
use Rattle.std.proofs.Common.{ℕ, refl, Bool}
use Rattle.elements.specs.declared.entries.Entry.{Entry}
use Rattle.elements.specs.Order.{Strict, precedes_by, stamp_of}
use Rattle.cells.specs.Trees.{Tree, leaf, node}
use Rattle.cells.specs.Lawful.{Lawful}
use Rattle.forests.specs.Forests.{Layout, shaped}
use Rattle.forests.specs.Layouts.{Consistent}
use Rattle.forests.proofs.Listing.{list_long, tally_root, sorted_list}

pub shaped_lawful : {T K : Type 0} {le : T → T → Bool} (L : Layout le K) (Shape : Tree (Entry T) → Type 0) → Strict (precedes_by le) (stamp_of {T = T}) → Consistent L → Shape leaf → ((i : ℕ) (e : Entry T) → Shape (node i e leaf leaf)) → Lawful (shaped L Shape)
shaped_lawful {le = le} L Shape law laid shape-leaf shape_one = record {
  left_is = laid.child_is;
  right_is = laid.next_is;
  next_is = laid.idle_is;
  valid_leaf = (shape-leaf, tt);
  valid_one = λ i e. (shape_one i e, (tt, tt, tt));
  list_leaf = refl;
  list_one = λ i e. refl;
  list_root = λ i e c s. tally_root (precedes_by le) stamp_of i e c s;
  list_long = list_long (precedes_by le);
  sorted = λ t once h. sorted_list (precedes_by le) stamp_of law t once h.1;
}
