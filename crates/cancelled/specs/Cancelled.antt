-- What a heap means when some of its entries are cancelled. `marks` has for each stamp its queue plus 1, or 0 when it is
-- in none.
use Rattle.std.specs.Prelude.{◌≡◌, ℕ, ◌+◌, ◌<◌, ◌≤◌, Bool, true, false, cond, List, [], ◌∷◌, map, length, Ok, Err, sum_by, Result, ◌==◌, ◌≢◌, nat_lt, slice_index, slice_index_or}
use Rattle.std.specs.List.{AllByRecursion}
use Rattle.elements.specs.declared.entries.Entry.{Entry}
use Rattle.elements.specs.Order.{stamp_of}
use Rattle.stores.specs.declared.refusals.Unfit.{Unfit}
use Rattle.stores.specs.declared.refusals.Unfit.TheVariants.{OutOfRange, NotFresh}
use Rattle.stores.specs.SortedLists.{tally}
use Rattle.stores.specs.Meaning.{State, Fixed, Meaning, WellFormed, list_of, fresh}
use Rattle.stores.specs.Calls.{with_list}
use Rattle.stores.specs.Promises.{Bare}

abbrev pub queued : List ℕ → ℕ → Bool
queued marks k = nat_lt 0 (slice_index marks k)

-- the entries that are not cancelled
unfoldable pub kept : {T : Type 0} → List ℕ → List (Entry T) → List (Entry T)
kept marks [] = []
kept marks (x ∷ xs) = cond (queued marks x.stamp) (x ∷ kept marks xs) (kept marks xs)

-- how many are cancelled
unfoldable pub cancelled : {T : Type 0} → List ℕ → List (Entry T) → ℕ
cancelled marks [] = 0
cancelled marks (x ∷ xs) = cond (queued marks x.stamp) 0 1 + cancelled marks xs

abbrev pub front_cancelled : {T : Type 0} → List ℕ → List (Entry T) → Bool
front_cancelled marks [] = false
front_cancelled marks (x ∷ xs) = slice_index marks x.stamp == 0

-- without the cancelled entries at the front
unfoldable pub purged : {T : Type 0} → List ℕ → List (Entry T) → List (Entry T)
purged marks [] = []
purged marks (x ∷ xs) = cond (queued marks x.stamp) (x ∷ xs) (purged marks xs)

abbrev pub purge_after : {T : Type 0} → List ℕ → State T → ℕ → State T
purge_after marks s q = with_list s q (purged marks (list_of s q))

-- the purging of queue q takes a heap from m to n
pub record Purges {T : Type 0} (le : T → T → Bool) (marks : List ℕ) (m : Meaning T) (q : ℕ) (n : Meaning T) : Type 0 where
  pub after : n.state ≡ purge_after marks m.state q
  pub fixed : n.fixed ≡ m.fixed
  pub formed : WellFormed le n
  pub bare : Bare n

-- the mark `old` becomes `new`
abbrev pub renamed : ℕ → ℕ → List ℕ → List ℕ
renamed old new marks = map (λ v. cond (v == old) new v) marks

abbrev pub lazily_state : {T : Type 0} → List ℕ → State T → State T
lazily_state marks s = record { lists = map (kept marks) s.lists; next = s.next }

-- one layer higher, and a refused cancel tells that height
abbrev pub lazily_fixed : Fixed → Fixed
lazily_fixed f = record { cells = f.cells; stamps = f.stamps; pairs = f.pairs; height = f.height + 1; cancelling = f.height + 1 }

-- what the layer means over a heap that means m: the entries not cancelled; held are the cancelled ones
abbrev pub lazily : {T : Type 0} → List ℕ → Meaning T → Meaning T
lazily marks m = record { state = lazily_state marks m.state; fixed = lazily_fixed m.fixed; held = sum_by (cancelled marks) m.state.lists }

-- the front entry, if any, is not cancelled
abbrev pub Front : {T : Type 0} → List ℕ → List (Entry T) → Type 0
Front marks [] = Unit {0}
Front marks (x ∷ xs) = queued marks x.stamp ≡ true

-- the marks and the counts tell where the entries of these lists are that are not cancelled
pub record Marked {T : Type 0} (marks counts : List ℕ) (xss : List (List (Entry T))) : Type 0 where
  pub places : length marks ≡ 32768
  pub within : (k : ℕ) → slice_index marks k ≤ 32
  pub counted : counts ≡ map length (map (kept marks) xss)
  -- a stamp has the mark of queue q where an entry of that queue has it
  pub tied : (q k : ℕ) → q < 32 → tally stamp_of (slice_index_or (map (kept marks) xss) q []) k ≡ cond (slice_index marks k == q + 1) 1 0
  pub fronts : AllByRecursion (Front marks) xss

-- the layer of height h over a heap that means m and is sound where Below holds
pub record Over {T : Type 0} (le : T → T → Bool) (Below : Type 0) (marks counts : List ℕ) (h : ℕ) (m : Meaning T) : Type 0 where
  pub below : Below
  pub formed : WellFormed le m
  pub bare : Bare m
  pub above : h ≡ m.fixed.height + 1
  pub low : h ≤ 255
  pub marked : Marked marks counts m.state.lists

-- the layer can be made over a heap that means m
pub record Fit {T : Type 0} (m : Meaning T) : Type 0 where
  pub low : m.fixed.height < 255
  pub unused : m.state.next ≡ 0

-- the test before the making
abbrev pub Tested : {T : Type 0} → Result Unit Unfit → Meaning T → Type 0
Tested (Ok u) m = Fit m
Tested (Err OutOfRange) m = 255 ≤ m.fixed.height
Tested (Err NotFresh) m = (m.fixed.height < 255) × (m.state.next ≢ 0)

-- what the layer means when it is made
abbrev pub fresh_lazily : {T : Type 0} → Fixed → Meaning T
fresh_lazily f = record { state = fresh; fixed = lazily_fixed f; held = 0 }
