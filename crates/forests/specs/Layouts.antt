-- What is asked of a layout of forests.
use Rattle.std.specs.Prelude.{◌≡◌, ℕ, Some, Option, Bool}
use Rattle.elements.specs.declared.entries.Entry.{Entry}
use Rattle.cells.specs.Trees.{Tree, node, root}
use Rattle.forests.specs.Forests.{Layout}

-- a cell names the first child and the next sibling, an idle one the next, and both can be given anew
pub record Consistent {T K : Type 0} {le : T → T → Bool} (L : Layout le K) : Type 0 where
  pub child_is : (c s : Tree (Entry T)) → L.child (L.link c s) ≡ root c
  pub next_is : (c s : Tree (Entry T)) → L.next (L.link c s) ≡ root s
  pub idle_is : (o : Option ℕ) → L.next (L.idle o) ≡ o
  pub with_next_is : (c s s' : Tree (Entry T)) → L.with_next (L.link c s) (root s') ≡ L.link c s'
  pub with_child_is : (j : ℕ) (f : Entry T) (d c s : Tree (Entry T)) → L.with_child (L.link c s) (Some j) ≡ L.link (node j f d c) s
