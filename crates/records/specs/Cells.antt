-- What the cells of a slice hold: the list of each queue, how many entries it has, and where a record stands.
use Rattle.std.specs.Prelude.{◌≡◌, ℕ, ◌<◌, Bool, false, cond, not, List, [], ◌∷◌, map, length, is_some, Some, None, count_by, position, Option, ◌==◌}
use Rattle.std.specs.List.{range_with_len, HoldsAt}
use Rattle.elements.specs.declared.entries.Entry.{Entry}
use Rattle.elements.specs.Order.{precedes_by}
use Rattle.stores.specs.SortedLists.{insert}
use Rattle.stores.specs.Calls.{front}
use Rattle.records.specs.declared.cells.Record.{Record}

-- a record, or none
abbrev pub Cell : Type 0 → Type 0
Cell T = Option (Record T)

abbrev pub empty : {T : Type 0} → Cell T → Bool
empty c = not (is_some c)

abbrev pub has_stamp : {T : Type 0} → ℕ → Cell T → Bool
has_stamp k None = false
has_stamp k (Some r) = r.entry.stamp == k

-- the cell, where its entry has the stamp k
abbrev pub with_stamp : {T : Type 0} → ℕ → Cell T → Cell T
with_stamp k c = cond (has_stamp k c) c None

-- the entry of a cell, where it is in queue q
abbrev pub entry_in : {T : Type 0} → ℕ → Cell T → Option (Entry T)
entry_in q None = None
entry_in q (Some r) = cond (r.queue == q) (Some r.entry) None

-- the cell after the records of queue b went into queue a
abbrev pub moved : {T : Type 0} → ℕ → ℕ → Cell T → Cell T
moved a b None = None
moved a b (Some r) = Some (record { queue = cond (r.queue == b) a r.queue; entry = r.entry })

-- an entry, if there is one, enters a sorted list
abbrev pub entering : {T : Type 0} → (T → T → Bool) → Option (Entry T) → List (Entry T) → List (Entry T)
entering le None xs = xs
entering le (Some e) xs = insert (precedes_by le) e xs

-- the list of queue q: its entries, sorted
abbrev pub queue_of : {T : Type 0} → (T → T → Bool) → ℕ → List (Cell T) → List (Entry T)
queue_of le q [] = []
queue_of le q (c ∷ cs) = entering le (entry_in q c) (queue_of le q cs)

-- what f gives for the number of each queue
unfoldable pub by_queue : {A : Type 0} → (ℕ → A) → List A
by_queue f = map f (range_with_len 0 32)

-- the lists of all queues
abbrev pub lists_of : {T : Type 0} → (T → T → Bool) → List (Cell T) → List (List (Entry T))
lists_of le cs = by_queue (λ q. queue_of le q cs)

-- the record of a cell, if any, is in one of the queues
abbrev pub Numbered : {T : Type 0} → Cell T → Type 0
Numbered None = Unit {0}
Numbered (Some r) = r.queue < 32

-- how many cells have a record
abbrev pub occupied : {T : Type 0} → List (Cell T) → ℕ
occupied cs = count_by is_some cs

-- how many cells have a record of queue q
abbrev pub queued : {T : Type 0} → ℕ → List (Cell T) → ℕ
queued q cs = count_by (λ c. is_some (entry_in q c)) cs

-- how many cells have an entry with the stamp k
abbrev pub stamped : {T : Type 0} → ℕ → List (Cell T) → ℕ
stamped k cs = count_by (has_stamp k) cs

-- cell i has the record r
abbrev pub Holds : {T : Type 0} → List (Cell T) → ℕ → Record T → Type 0
Holds cs i r = (i < length cs) × HoldsAt (λ c. c ≡ Some r) cs i

-- the answer to: which cell has the stamp k, and which record?
abbrev pub StampedAt : {T : Type 0} → ℕ → List (Cell T) → Option (ℕ × Record T) → Type 0
StampedAt k cs None = position (has_stamp k) cs ≡ None
StampedAt k cs (Some (i, r)) = (position (has_stamp k) cs ≡ Some i) × Holds cs i r

-- the answer to: which cell has the front of queue q, and which entry?
abbrev pub FrontAt : {T : Type 0} → (T → T → Bool) → ℕ → List (Cell T) → Option (ℕ × Entry T) → Type 0
FrontAt le q cs None = queue_of le q cs ≡ []
FrontAt le q cs (Some (i, e)) = (front (queue_of le q cs) ≡ Some e) × Holds cs i (record { queue = q; entry = e })

-- of an entry that was found before, if any, and the entry e of cell i, the one that comes first
abbrev pub earlier : {T : Type 0} → (T → T → Bool) → Option (ℕ × Entry T) → ℕ → Entry T → ℕ × Entry T
earlier le None i e = (i, e)
earlier le (Some p) i e = cond (precedes_by le e p.1) (i, e) p
