-- Forests: a node's left subtree is its children, its right subtree the siblings behind it.
use Rattle.std.specs.Prelude.{◌≡◌, ℕ, Bool, true, List, [], ◌∷◌, Option}
use Rattle.elements.specs.declared.entries.Entry.{Entry}
use Rattle.elements.specs.Order.{precedes_by}
use Rattle.stores.specs.SortedLists.{merge}
use Rattle.cells.specs.Trees.{Tree, leaf, node}
use Rattle.cells.specs.Forms.{Form}

-- e precedes every root of the forest
abbrev pub Over : {A : Type 0} → (A → A → Bool) → A → Tree A → Type 0
Over before e leaf = Unit {0}
Over before e (node i f c s) = (before e f ≡ true) × Over before e s

-- every parent precedes its children
abbrev pub HeapOrdered : {A : Type 0} → (A → A → Bool) → Tree A → Type 0
HeapOrdered before leaf = Unit {0}
HeapOrdered before (node i e c s) = Over before e c × HeapOrdered before c × HeapOrdered before s

-- what the forest stands for: the sorted joining of its trees' lists, of which each is the root, then the children's
abbrev pub listed : {A : Type 0} → (A → A → Bool) → Tree A → List A
listed before leaf = []
listed before (node i e c s) = merge before (e ∷ listed before c) (listed before s)

-- a forest of any shape
abbrev pub Any : {A : Type 0} → Tree A → Type 0
Any t = Unit {0}

-- one tree before the siblings v
abbrev pub Before : {A : Type 0} → Tree A → Tree A → Type 0
Before v leaf = ⊥
Before v (node i e c s) = s ≡ v

-- what the cells of a heap of forests hold: le is the order of the elements, T their type, K what a cell of the links
-- holds
pub record Layout {T : Type 0} (le : T → T → Bool) (K : Type 0) : Type 1 where
  -- what the cell of a root over the children c holds, before the siblings s, and where it names both
  pub link : Tree (Entry T) → Tree (Entry T) → K
  pub child : K → Option ℕ
  pub next : K → Option ℕ
  -- the same root before other siblings, and with one more child in front
  pub with_next : K → Option ℕ → K
  pub with_child : K → Option ℕ → K
  -- what is read past the end of the slice, and what an idle cell holds that names the next one
  pub none : K
  pub idle : Option ℕ → K

-- the form of heaps whose forests have a shape, and in which every parent precedes its children
abbrev pub shaped : {T K : Type 0} {le : T → T → Bool} → Layout le K → (Tree (Entry T) → Type 0) → Form le K
shaped {le} L Shape = record {
  link = L.link;
  left = L.child;
  right = L.next;
  none = L.none;
  idle = L.idle;
  Valid = λ t. Shape t × HeapOrdered (precedes_by le) t;
  list = listed (precedes_by le);
}
