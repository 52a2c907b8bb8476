-- What the lemmas ask of a form of heap.
use Rattle.std.specs.Prelude.{◌≡◌, ℕ, ◌≤◌, Bool, [], ◌∷◌, length, Option}
use Rattle.elements.specs.declared.entries.Entry.{Entry}
use Rattle.elements.specs.Order.{precedes_by, stamp_of}
use Rattle.stores.specs.SortedLists.{tally, Sorted}
use Rattle.cells.specs.Trees.{Tree, leaf, node, root, size}
use Rattle.cells.specs.Forms.{Form}

pub record Lawful {T K : Type 0} {le : T → T → Bool} (F : Form le K) : Type 0 where
  -- a cell names the two subtrees, and an idle one the next
  pub left_is : (l r : Tree (Entry T)) → F.left (F.link l r) ≡ root l
  pub right_is : (l r : Tree (Entry T)) → F.right (F.link l r) ≡ root r
  pub next_is : (o : Option ℕ) → F.right (F.idle o) ≡ o
  -- nothing, and a node by itself, are heaps
  pub valid_leaf : F.Valid leaf
  pub valid_one : (i : ℕ) (e : Entry T) → F.Valid (node i e leaf leaf)
  pub list_leaf : F.list leaf ≡ []
  pub list_one : (i : ℕ) (e : Entry T) → F.list (node i e leaf leaf) ≡ e ∷ []
  -- a heap's list has its root's entry, as many entries as the heap has nodes, and is sorted
  pub list_root : (i : ℕ) (e : Entry T) (l r : Tree (Entry T)) → 1 ≤ tally stamp_of (F.list (node i e l r)) e.stamp
  pub list_long : (t : Tree (Entry T)) → length (F.list t) ≡ size t
  pub sorted : (t : Tree (Entry T)) → ((k : ℕ) → tally stamp_of (F.list t) k ≤ 1) → F.Valid t → Sorted (precedes_by le) (F.list t)
