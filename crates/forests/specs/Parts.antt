-- Forests that lie in two slices, one by itself, two side by side, and two trees that become one.
use Rattle.std.specs.Prelude.{◌≡◌, ◌⊎◌, ℕ, ◌+◌, ◌<◌, ◌≤◌, List, length, get_or, Some, Option, slice_index_or, slice_set, Bool}
use Rattle.elements.specs.declared.entries.Entry.{Entry}
use Rattle.elements.specs.Order.{precedes_by, stamp_of}
use Rattle.stores.specs.SortedLists.{merge, tally}
use Rattle.cells.specs.Trees.{Tree, leaf, node, size, uses, Held, Linked}
use Rattle.cells.specs.Forms.{StoredAt, HeapAt, Built}
use Rattle.forests.specs.Forests.{Layout, HeapOrdered, Any, listed, shaped}

-- the tree that two become: the root of the first over the second in front of its children, before the siblings v
abbrev pub over : {A : Type 0} → Tree A → Tree A → Tree A → Tree A
over leaf t v = leaf
over (node i e c s) leaf v = leaf
over (node i e c s) (node j f d t) v = node i e (node j f d c) v

-- u is one of the trees s and t over the other, before the siblings v
abbrev pub Joins : {A : Type 0} → Tree A → Tree A → Tree A → Tree A → Type 0
Joins s t v u = (u ≡ over s t v) ⊎ (u ≡ over t s v)

module _ {T K : Type 0} {le : T → T → Bool} (L : Layout le K) where
  -- a forest that lies in the slices, with its first root at a
  abbrev pub ForestAt : (Tree (Entry T) → Type 0) → List K → List (Entry T) → Option ℕ → Tree (Entry T) → Type 0
  ForestAt Shape ls es a t = HeapAt (shaped L Shape) ls es a t

  -- two such forests that share no cell and no stamp
  pub record Apart (One Two : Tree (Entry T) → Type 0) (ls : List K) (es : List (Entry T)) (a b : Option ℕ) (s t : Tree (Entry T)) : Type 0 where
    pub one : StoredAt (shaped L One) ls es a s
    pub two : StoredAt (shaped L Two) ls es b t
    pub cells : (k : ℕ) → uses s k + uses t k ≤ 1
    pub stamps : (k : ℕ) → tally stamp_of (listed (precedes_by le) s) k + tally stamp_of (listed (precedes_by le) t) k ≤ 1
    pub few : size s + size t ≤ 4096

  -- two forests made at a and b: together they have the list wanted and `count` cells, those that `own` counts, and no
  -- other link changed from ls to ls'
  pub record Parted (One Two : Tree (Entry T) → Type 0) (ls : List K) (es : List (Entry T)) (list : List (Entry T)) (own : ℕ → ℕ) (count : ℕ) (ls' : List K) (a b : Option ℕ) : Type 0 where
    pub first : Tree (Entry T)
    pub second : Tree (Entry T)
    pub apart : Apart One Two ls' es a b first second
    pub lists : merge (precedes_by le) (listed (precedes_by le) first) (listed (precedes_by le) second) ≡ list
    pub cells : (k : ℕ) → uses first k + uses second k ≡ own k
    pub counts : size first + size second ≡ count
    pub others : (k : ℕ) → own k ≡ 0 → slice_index_or ls' k L.none ≡ slice_index_or ls k L.none

  -- t is one tree with its root at i: the slices have it, whatever siblings i names
  pub record Rooted (ls : List K) (es : List (Entry T)) (i : ℕ) (t : Tree (Entry T)) : Type 0 where
    pub entry : Entry T
    pub children : Tree (Entry T)
    pub siblings : Tree (Entry T)
    pub is : t ≡ node i entry children leaf
    pub within : i < length ls
    pub linked : get_or ls i L.none ≡ L.link children siblings
    pub below : Linked L.link L.none ls children
    pub held : Held es t
    pub ordered : HeapOrdered (precedes_by le) t

  -- the trees s and t at i and j, and the forest v at next, share no cell and no stamp
  pub record Joinable (ls : List K) (es : List (Entry T)) (i j : ℕ) (next : Option ℕ) (s t v : Tree (Entry T)) : Type 0 where
    pub one : Rooted ls es i s
    pub two : Rooted ls es j t
    pub behind : StoredAt (shaped L Any) ls es next v
    pub cells : (k : ℕ) → uses s k + uses t k + uses v k ≤ 1
    pub stamps : (k : ℕ) → tally stamp_of (listed (precedes_by le) s) k + tally stamp_of (listed (precedes_by le) t) k + tally stamp_of (listed (precedes_by le) v) k ≤ 1
    pub few : size s + size t + size v ≤ 4096

  -- the links once the tree at j is the first child of i, which stands before the siblings at next
  abbrev pub adopted : List K → ℕ → ℕ → Option ℕ → List K
  adopted ls i j next = slice_set (slice_set ls j (L.with_next (slice_index_or ls j L.none) (L.child (slice_index_or ls i L.none)))) i (L.with_next (L.with_child (slice_index_or ls i L.none) (Some j)) next)

  -- what a join of the trees s and t before the siblings v leaves: one forest at r whose list is the sorted joining
  abbrev pub Joined : (Tree (Entry T) → Type 0) → List K → List (Entry T) → Tree (Entry T) → Tree (Entry T) → Tree (Entry T) → List K → Option ℕ → Type 0
  Joined Shape ls es s t v ls' r = Built (shaped L Shape) ls es (merge (precedes_by le) (merge (precedes_by le) (listed (precedes_by le) s) (listed (precedes_by le) t)) (listed (precedes_by le) v)) (λ k. uses s k + uses t k + uses v k) (size s + size t + size v) ls' r

  -- what an addition of the forests s and t leaves: one forest at r whose list is the sorted joining of theirs
  abbrev pub Added : (Tree (Entry T) → Type 0) → List K → List (Entry T) → Tree (Entry T) → Tree (Entry T) → List K → Option ℕ → Type 0
  Added Shape ls es s t ls' r = Built (shaped L Shape) ls es (merge (precedes_by le) (listed (precedes_by le) s) (listed (precedes_by le) t)) (λ k. uses s k + uses t k) (size s + size t) ls' r
