-- Leftist heaps: their shape, their order, the list that one stands for, and their links.
use Rattle.std.specs.Prelude.{ℕ, ◌+◌, ◌^◌, ◌≤◌, Bool, true, false, List, Some, None, Option, nat_le, slice_index_or}
use Rattle.elements.specs.Order.{precedes_by}
use Rattle.cells.specs.Trees.{Tree, leaf, node, root, size}
use Rattle.cells.specs.Binary.{HeapOrdered, listed}
use Rattle.cells.specs.Forms.{Form}
use Rattle.leftist.specs.declared.links.Link.{Link}

-- 0 for nothing, else one more than the right subtree's
abbrev pub rank : {A : Type 0} → Tree A → ℕ
rank leaf = 0
rank (node i e l r) = rank r + 1

-- at every node the left subtree's rank is at least the right's
abbrev pub Ranked : {A : Type 0} → Tree A → Type 0
Ranked leaf = Unit {0}
Ranked (node i e l r) = (rank r ≤ rank l) × Ranked l × Ranked r

-- what the cell of a node over l and r holds
abbrev pub link_of : {A : Type 0} → Tree A → Tree A → Link
link_of l r = record { left = root l; right = root r; rank = rank r + 1 }

abbrev pub no_link : Link
no_link = record { left = None; right = None; rank = 0 }

-- a node with no subtrees
abbrev pub alone : Link
alone = record { left = None; right = None; rank = 1 }

-- an idle cell names the next one on the right
abbrev pub idle_to : Option ℕ → Link
idle_to o = record { left = None; right = o; rank = 0 }

abbrev pub leftist : {T : Type 0} (le : T → T → Bool) → Form le Link
leftist le = record {
  link = link_of;
  left = λ (k : Link). k.left;
  right = λ (k : Link). k.right;
  none = no_link;
  idle = idle_to;
  Valid = λ t. Ranked t × HeapOrdered (precedes_by le) t;
  list = listed (precedes_by le);
}

-- the rank that the slice has for the tree at a cell
abbrev pub rank_at : List Link → Option ℕ → ℕ
rank_at ls None = 0
rank_at ls (Some i) = (slice_index_or ls i no_link).rank

-- the link of a node over the trees at p and q, the one of lower rank on the right
abbrev pub joined : List Link → Option ℕ → Option ℕ → Link
joined ls p q = elim (nat_le (rank_at ls q) (rank_at ls p)) [ true ↦ record { left = p; right = q; rank = rank_at ls q + 1 } | false ↦ record { left = q; right = p; rank = rank_at ls p + 1 } ]

-- a heap of rank n has at least 2ⁿ − 1 nodes, so that the way from its root to the right is short
abbrev pub RanksAreLow : Type 0 → Type 0
RanksAreLow A = (t : Tree A) → Ranked t → 2 ^ rank t ≤ size t + 1
