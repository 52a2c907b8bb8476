-- Pairing heaps: their shape and their links.
use Rattle.std.specs.Prelude.{◌≡◌, ℕ, Bool, None, Option}
use Rattle.cells.specs.Trees.{Tree, leaf, node, root}
use Rattle.cells.specs.Forms.{Form}
use Rattle.forests.specs.Forests.{Layout, shaped}
use Rattle.pairing.specs.declared.links.Link.{Link}

-- nothing, or one root with no sibling
abbrev pub Alone : {A : Type 0} → Tree A → Type 0
Alone leaf = Unit {0}
Alone (node i e c s) = s ≡ leaf

-- what the cell of a root over the children c holds, before the siblings s
abbrev pub link_of : {A : Type 0} → Tree A → Tree A → Link
link_of c s = record { child = root c; next = root s }

abbrev pub no_link : Link
no_link = record { child = None; next = None }

-- a root with no children and no siblings
abbrev pub alone : Link
alone = record { child = None; next = None }

-- the same node before other siblings
abbrev pub before_next : Link → Option ℕ → Link
before_next k o = record { child = k.child; next = o }

-- the same node with another first child
abbrev pub over_child : Link → Option ℕ → Link
over_child k o = record { child = o; next = k.next }

-- an idle cell names the next one as its sibling
abbrev pub idle_to : Option ℕ → Link
idle_to o = record { child = None; next = o }

abbrev pub cells_of : {T : Type 0} (le : T → T → Bool) → Layout le Link
cells_of le = record {
  link = link_of;
  child = λ (k : Link). k.child;
  next = λ (k : Link). k.next;
  with_next = before_next;
  with_child = over_child;
  none = no_link;
  idle = idle_to;
}

-- the heap of a queue: one tree in which every parent precedes its children
abbrev pub pairing : {T : Type 0} (le : T → T → Bool) → Form le Link
pairing le = shaped (cells_of le) Alone
