-- What a store means: 32 sorted queues of entries and the next stamp, beside what never changes, and what is held.
use Rattle.std.specs.Prelude.{◌≡◌, ℕ, ◌+◌, ◌≤◌, max, Bool, true, false, cond, List, [], ◌∷◌, length, replicate, sum_by, nat_le, nat_lt, slice_index_or}
use Rattle.std.specs.List.{AllByRecursion}
use Rattle.elements.specs.declared.entries.Entry.{Entry}
use Rattle.elements.specs.Order.{precedes_by, stamp_of}
use Rattle.stores.specs.SortedLists.{tally, Sorted}

-- a limit, and the height of the layer that set it
pub record Pair : Type 0 where
  pub limit : ℕ
  pub height : ℕ

-- what calls change: the list of each queue, and the next stamp
pub record State (T : Type 0) : Type 0 where
  pub lists : List (List (Entry T))
  pub next : ℕ

-- what no call changes
pub record Fixed : Type 0 where
  pub cells : ℕ
  pub stamps : ℕ
  -- each queue's limits
  pub pairs : List (List Pair)
  pub height : ℕ
  -- the height that a refused cancel carries
  pub cancelling : ℕ

pub record Meaning (T : Type 0) : Type 0 where
  pub state : State T
  pub fixed : Fixed
  -- cells of cancelled entries, which no longer count
  pub held : ℕ

abbrev pub list_of : {T : Type 0} → State T → ℕ → List (Entry T)
list_of s q = slice_index_or s.lists q []

abbrev pub count_of : {T : Type 0} → State T → ℕ → ℕ
count_of s q = length (list_of s q)

-- how many entries all queues have together
abbrev pub live : {T : Type 0} → State T → ℕ
live s = sum_by length s.lists

abbrev pub limits_of : Fixed → ℕ → List Pair
limits_of f q = slice_index_or f.pairs q []

-- some limit is at or below n
abbrev pub reached : List Pair → ℕ → Bool
reached [] n = false
reached (p ∷ ps) n = cond (nat_le p.limit n) true (reached ps n)

-- the greatest height among the pairs whose limit is at or below n
abbrev pub reached_height : List Pair → ℕ → ℕ
reached_height [] n = 0
reached_height (p ∷ ps) n = cond (nat_le p.limit n) (max p.height (reached_height ps n)) (reached_height ps n)

-- the cells and the stamps that a store may have
pub record Sizes (cells stamps : ℕ) : Type 0 where
  pub some_cells : 1 ≤ cells
  pub few_cells : cells ≤ 4096
  pub some_stamps : 1 ≤ stamps
  pub few_stamps : stamps ≤ 32768

abbrev pub AtMost : ℕ → List Pair → Type 0
AtMost h ps = AllByRecursion (λ p. p.height ≤ h) ps

-- what holds of every store at any time
pub record WellFormed {T : Type 0} (le : T → T → Bool) (m : Meaning T) : Type 0 where
  pub queues : length m.state.lists ≡ 32
  pub sorted : AllByRecursion (Sorted (precedes_by le)) m.state.lists
  -- every stamp is below the next, and no two entries of the whole store have the same
  pub stamps : (k : ℕ) → sum_by (λ xs. tally stamp_of xs k) m.state.lists ≤ cond (nat_lt k m.state.next) 1 0
  pub issued : m.state.next ≤ m.fixed.stamps
  pub stored : live m.state + m.held ≤ m.fixed.cells
  -- nothing is held while every queue is empty
  pub idle : live m.state ≡ 0 → m.held ≡ 0
  pub limited : length m.fixed.pairs ≡ 32
  pub heights : AllByRecursion (AtMost m.fixed.height) m.fixed.pairs
  pub sizes : Sizes m.fixed.cells m.fixed.stamps
  pub low : m.fixed.height ≤ 255

-- a store by itself, with no layer over it: no limits, height 0
abbrev pub bare_fixed : ℕ → ℕ → Fixed
bare_fixed c s = record { cells = c; stamps = s; pairs = replicate 32 []; height = 0; cancelling = 0 }

-- nothing put yet
abbrev pub fresh : {T : Type 0} → State T
fresh = record { lists = replicate 32 []; next = 0 }

-- a store by itself with nothing put yet
abbrev pub fresh_bare : {T : Type 0} → ℕ → ℕ → Meaning T
fresh_bare c s = record { state = fresh; fixed = bare_fixed c s; held = 0 }
