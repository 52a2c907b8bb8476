-- Heaps of binary trees: every parent precedes its two children.
use Rattle.std.specs.Prelude.{◌≡◌, Bool, true, List, [], ◌∷◌}
use Rattle.stores.specs.SortedLists.{merge}
use Rattle.cells.specs.Trees.{Tree, leaf, node}

-- e precedes the tree's root
abbrev pub Over : {A : Type 0} → (A → A → Bool) → A → Tree A → Type 0
Over before e leaf = Unit {0}
Over before e (node i f l r) = before e f ≡ true

-- every parent precedes its children
abbrev pub HeapOrdered : {A : Type 0} → (A → A → Bool) → Tree A → Type 0
HeapOrdered before leaf = Unit {0}
HeapOrdered before (node i e l r) = Over before e l × Over before e r × HeapOrdered before l × HeapOrdered before r

-- what the tree stands for: the root, then the sorted joining of its subtrees' lists
abbrev pub listed : {A : Type 0} → (A → A → Bool) → Tree A → List A
listed before leaf = []
listed before (node i e l r) = e ∷ merge before (listed before l) (listed before r)
