-- Binary trees whose nodes are cells of two slices.
use Rattle.std.specs.Prelude.{◌≡◌, ℕ, zero, suc, ◌+◌, ◌<◌, cond, List, [], ◌∷◌, length, drop, Some, None, Option, ◌==◌, slice_index_or}

-- a node has the number of its cell, what it holds, and two subtrees
pub data Tree (A : Type 0) : Type 0 where
  leaf : Tree A
  node : ℕ → A → Tree A → Tree A → Tree A

-- the cell of the tree's root
abbrev pub root : {A : Type 0} → Tree A → Option ℕ
root leaf = None
root (node i e l r) = Some i

abbrev pub size : {A : Type 0} → Tree A → ℕ
size leaf = 0
size (node i e l r) = 1 + size l + size r

-- how many nodes of the tree lie in cell k
abbrev pub uses : {A : Type 0} → Tree A → ℕ → ℕ
uses leaf k = 0
uses (node i e l r) k = cond (i == k) 1 0 + uses l k + uses r k

-- each node holds what the slice has in its cell
abbrev pub Held : {A : Type 0} → List A → Tree A → Type 0
Held es leaf = Unit {0}
Held es (node i e l r) = (i < length es) × (e ≡ slice_index_or es i e) × Held es l × Held es r

-- `link l r` is what the cell of a node over l and r holds; `none` is read past the end of the slice
abbrev pub Linked : {A K : Type 0} → (Tree A → Tree A → K) → K → List K → Tree A → Type 0
Linked link none ls leaf = Unit {0}
Linked link none ls (node i e l r) = (i < length ls) × (slice_index_or ls i none ≡ link l r) × Linked link none ls l × Linked link none ls r

-- the tree at p, read from the slices, at most n deep: a link names the cells of the two subtrees
abbrev pub tree_at : {A K : Type 0} → (K → Option ℕ) → (K → Option ℕ) → K → List K → List A → ℕ → Option ℕ → Tree A
tree_at left right none ls es zero p = leaf
tree_at left right none ls es (suc n) None = leaf
tree_at left right none ls es (suc n) (Some i) = elim (drop i es) [ [] ↦ leaf | e ∷ _ ↦ node i e (tree_at left right none ls es n (left (slice_index_or ls i none))) (tree_at left right none ls es n (right (slice_index_or ls i none))) ]
