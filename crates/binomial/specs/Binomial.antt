-- Binomial heaps: their shape and their links.
use Rattle.std.specs.Prelude.{◌≡◌, ℕ, ◌+◌, ◌^◌, ◌<◌, ◌≤◌, Bool, true, ◌⊎◌, List, Some, None, Option}
use Rattle.elements.specs.declared.entries.Entry.{Entry}
use Rattle.elements.specs.Order.{precedes_by}
use Rattle.cells.specs.Trees.{Tree, leaf, node, root, size, uses}
use Rattle.cells.specs.Forms.{Form}
use Rattle.forests.specs.Forests.{Layout, Over, listed, shaped}
use Rattle.forests.specs.Parts.{Parted}
use Rattle.binomial.specs.declared.links.Link.{Link}

-- how many trees the forest has; a root's degree is the number of its children
abbrev pub trees : {A : Type 0} → Tree A → ℕ
trees leaf = 0
trees (node i e c s) = trees s + 1

-- trees of the degrees k − 1 down to 0, for some k: a root has as many children as siblings behind it
abbrev pub Falling : {A : Type 0} → Tree A → Type 0
Falling leaf = Unit {0}
Falling (node i e c s) = (trees c ≡ trees s) × Falling c × Falling s

-- trees of the degrees k − 1 down to 0, the children of a root of degree k
abbrev pub Children : {A : Type 0} → ℕ → Tree A → Type 0
Children k t = Falling t × (trees t ≡ k)

-- one tree of degree k
abbrev pub Lone : {A : Type 0} → ℕ → Tree A → Type 0
Lone k leaf = ⊥
Lone k (node i e c s) = (s ≡ leaf) × Children k c

-- trees of rising degrees, from k on, at most one of a degree
abbrev pub Rising : {A : Type 0} → ℕ → Tree A → Type 0
Rising k leaf = Unit {0}
Rising k (node i e c s) = (k ≤ trees c) × Falling c × Rising (trees c + 1) s

-- what the cell of a root over the children c holds, before the siblings s
abbrev pub link_of : {A : Type 0} → Tree A → Tree A → Link
link_of c s = record { child = root c; next = root s; degree = trees c }

abbrev pub no_link : Link
no_link = record { child = None; next = None; degree = 0 }

-- a root with no children and no siblings
abbrev pub alone : Link
alone = record { child = None; next = None; degree = 0 }

-- the same node before other siblings
abbrev pub before_next : Link → Option ℕ → Link
before_next k o = record { child = k.child; next = o; degree = k.degree }

-- the same node with one more child in front
abbrev pub over_child : Link → Option ℕ → Link
over_child k o = record { child = o; next = k.next; degree = k.degree + 1 }

-- an idle cell names the next one as its sibling
abbrev pub idle_to : Option ℕ → Link
idle_to o = record { child = None; next = o; degree = 0 }

abbrev pub cells_of : {T : Type 0} (le : T → T → Bool) → Layout le Link
cells_of le = record {
  link = link_of;
  child = λ (k : Link). k.child;
  next = λ (k : Link). k.next;
  with_next = before_next;
  with_child = over_child;
  none = no_link;
  idle = idle_to;
}

-- the heap of a queue: trees of rising degrees in which every parent precedes its children
abbrev pub binomial : {T : Type 0} (le : T → T → Bool) → Form le Link
binomial le = shaped (cells_of le) (Rising 0)

-- one more child can be counted
abbrev pub HasRoom : Link → Type 0
HasRoom k = k.degree < 255

-- x is at the root in cell r, and precedes the other roots
abbrev pub Least : {A : Type 0} → (A → A → Bool) → ℕ → A → Tree A → Type 0
Least before r x leaf = ⊥
Least before r x (node i e c s) = ((r ≡ i) × (x ≡ e) × Over before x s) ⊎ (Least before r x s × (before x e ≡ true))

-- one tree with x at its root
abbrev pub Topped : {A : Type 0} → A → Tree A → Type 0
Topped x leaf = ⊥
Topped x (node i e c s) = (s ≡ leaf) × (e ≡ x) × Falling c

-- trees of rising degrees, from k on, whose roots x precedes
abbrev pub RisingBehind : {A : Type 0} → (A → A → Bool) → ℕ → A → Tree A → Type 0
RisingBehind before k x t = Rising k t × Over before x t

-- the tree in cell i, with x at its root, is taken out of the forest t, and the others are at r
abbrev pub TakenOut : {T : Type 0} → (T → T → Bool) → List Link → List (Entry T) → ℕ → ℕ → Entry T → Tree (Entry T) → List Link → Option ℕ → Type 0
TakenOut le ls es k i x t ls' r = Parted (cells_of le) (RisingBehind (precedes_by le) k x) (Topped x) ls es (listed (precedes_by le) t) (uses t) (size t) ls' r (Some i)

-- a tree of degree k has 2ᵏ nodes, so that in a store of 4,096 cells no degree is above 12
abbrev pub DegreesAreLow : Type 0 → Type 0
DegreesAreLow A = (k : ℕ) (t : Tree A) → Lone k t → (size t ≡ 2 ^ k) × (size t ≤ 4096 → k ≤ 12)
