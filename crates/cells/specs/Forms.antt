-- Forms of heap, and trees of one form that lie in two slices.
use Rattle.std.specs.Prelude.{◌≡◌, ℕ, ◌+◌, ◌<◌, ◌≤◌, Bool, cond, List, ◌∷◌, length, Option, ◌==◌, slice_index_or}
use Rattle.elements.specs.declared.entries.Entry.{Entry}
use Rattle.elements.specs.Order.{precedes_by, stamp_of}
use Rattle.stores.specs.SortedLists.{merge, tally}
use Rattle.cells.specs.Trees.{Tree, root, size, uses, Held, Linked}

-- a form of heap: le is the order of the elements, T their type, K what a cell of the links holds
pub record Form {T : Type 0} (le : T → T → Bool) (K : Type 0) : Type 1 where
  -- what the cell of a node over two trees holds, and where it names them
  pub link : Tree (Entry T) → Tree (Entry T) → K
  pub left : K → Option ℕ
  pub right : K → Option ℕ
  -- what is read past the end of the slice, and what an idle cell holds that names the next one
  pub none : K
  pub idle : Option ℕ → K
  -- the rules of shape and order, and the list that the tree stands for
  pub Valid : Tree (Entry T) → Type 0
  pub list : Tree (Entry T) → List (Entry T)

module _ {T K : Type 0} {le : T → T → Bool} (F : Form le K) where
  -- a valid tree that lies in the slices
  pub record Stored (ls : List K) (es : List (Entry T)) (t : Tree (Entry T)) : Type 0 where
    pub linked : Linked F.link F.none ls t
    pub held : Held es t
    pub valid : F.Valid t

  -- its root is at a
  pub record StoredAt (ls : List K) (es : List (Entry T)) (a : Option ℕ) (t : Tree (Entry T)) : Type 0 where
    pub at : a ≡ root t
    pub stored : Stored ls es t

  -- it lies in no cell twice, has no stamp twice, and not more nodes than a store has cells
  pub record HeapAt (ls : List K) (es : List (Entry T)) (a : Option ℕ) (t : Tree (Entry T)) : Type 0 where
    pub stored_at : StoredAt ls es a t
    pub cells : (k : ℕ) → uses t k ≤ 1
    pub stamps : (k : ℕ) → tally stamp_of (F.list t) k ≤ 1
    pub few : size t ≤ 4096

  -- two stored trees that share no cell and no stamp
  pub record Meldable (ls : List K) (es : List (Entry T)) (a b : Option ℕ) (s t : Tree (Entry T)) : Type 0 where
    pub one : StoredAt ls es a s
    pub two : StoredAt ls es b t
    pub cells : (k : ℕ) → uses s k + uses t k ≤ 1
    pub stamps : (k : ℕ) → tally stamp_of (F.list s) k + tally stamp_of (F.list t) k ≤ 1
    pub few : size s + size t ≤ 4096

  -- a tree made at r: it has the list wanted and `count` cells, those that `own` counts, and no other link changed
  -- from ls to ls'
  pub record Built (ls : List K) (es : List (Entry T)) (list : List (Entry T)) (own : ℕ → ℕ) (count : ℕ) (ls' : List K) (r : Option ℕ) : Type 0 where
    pub tree : Tree (Entry T)
    pub stored_at : StoredAt ls' es r tree
    pub lists : F.list tree ≡ list
    pub cells : (k : ℕ) → uses tree k ≡ own k
    pub counts : size tree ≡ count
    pub others : (k : ℕ) → own k ≡ 0 → slice_index_or ls' k F.none ≡ slice_index_or ls k F.none

  -- the front entry of the heap t is in cell i
  pub record FrontIn (es : List (Entry T)) (t : Tree (Entry T)) (i : ℕ) : Type 0 where
    pub within : i < length es
    pub front : Entry T
    pub others : List (Entry T)
    pub held : front ≡ slice_index_or es i front
    pub lists : F.list t ≡ front ∷ others

  -- that entry is taken out of t: the others are a tree at r in the other cells of t, and no link outside t changed
  -- from ls to ls'
  pub record FrontTaken (ls : List K) (es : List (Entry T)) (t : Tree (Entry T)) (ls' : List K) (i : ℕ) (r : Option ℕ) : Type 0 where
    pub within : (i < length ls) × (i < length es)
    pub front : Entry T
    pub held : front ≡ slice_index_or es i front
    pub tree : Tree (Entry T)
    pub stored_at : StoredAt ls' es r tree
    pub lists : F.list t ≡ front ∷ F.list tree
    pub cells : (k : ℕ) → uses t k ≡ cond (i == k) 1 0 + uses tree k
    pub counts : size t ≡ 1 + size tree
    pub others : (k : ℕ) → uses t k ≡ 0 → slice_index_or ls' k F.none ≡ slice_index_or ls k F.none

-- what a meld of the trees s and t leaves: one tree at r, of their cells, whose list is the sorted joining of theirs
abbrev pub Melded : {T K : Type 0} {le : T → T → Bool} → Form le K → List K → List (Entry T) → Tree (Entry T) → Tree (Entry T) → List K → Option ℕ → Type 0
Melded {le} F ls es s t ls' r = Built F ls es (merge (precedes_by le) (F.list s) (F.list t)) (λ k. uses s k + uses t k) (size s + size t) ls' r
