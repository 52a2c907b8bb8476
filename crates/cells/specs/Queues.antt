-- 32 heaps of one form and the idle cells, in two slices: when they are sound, and what they mean.
use Rattle.std.specs.Prelude.{◌≡◌, ℕ, ◌+◌, ◌≤◌, cond, List, map, length, replicate, Some, None, Ok, Err, sum_by, Option, Result, nat_le, nat_lt, slice_index_or, slice_set, Bool}
use Rattle.std.specs.List.{AllByRecursion}
use Rattle.elements.specs.declared.entries.Entry.{Entry}
use Rattle.elements.specs.Order.{stamp_of}
use Rattle.stores.specs.declared.refusals.Refusal.{Refusal}
use Rattle.stores.specs.declared.refusals.Refusal.TheVariants.{QueueNumber}
use Rattle.stores.specs.SortedLists.{tally}
use Rattle.stores.specs.Meaning.{State, Meaning, Sizes, bare_fixed}
use Rattle.cells.specs.Trees.{Tree, root, size, uses, tree_at}
use Rattle.cells.specs.IdleCells.{first, times, Chained}
use Rattle.cells.specs.Forms.{Form, Stored}
use Rattle.cells.specs.declared.heads.Queue.{Queue}
use Rattle.cells.specs.declared.heads.Heads.{Heads}

-- the root and the count of a queue whose heap is t
abbrev pub queue_of : {A : Type 0} → Tree A → Queue
queue_of t = record { root = root t; count = size t }

-- an empty queue
abbrev pub no_queue : Queue
no_queue = record { root = None; count = 0 }

-- one heap to a queue; each cell is in one heap, once, or idle; every stamp is below the next, and no two are alike
pub record Sound {T K : Type 0} {le : T → T → Bool} (F : Form le K) (h : Heads) (ls : List K) (es : List (Entry T)) : Type 0 where
  pub trees : List (Tree (Entry T))
  pub idle : List ℕ
  pub many : length trees ≡ 32
  pub queues : h.queues ≡ map queue_of trees
  pub stored : AllByRecursion (Stored F ls es) trees
  pub free : h.free ≡ first idle
  pub chained : Chained F.none F.idle ls idle
  -- no cell twice, and as many as there are
  pub cells : (k : ℕ) → sum_by (λ t. uses t k) trees + times idle k ≤ 1
  pub total : sum_by size trees + length idle ≡ length ls
  pub long : length es ≡ length ls
  pub stamps : (k : ℕ) → sum_by (λ t. tally stamp_of (F.list t) k) trees ≤ cond (nat_lt k h.next) 1 0
  pub issued : h.next ≤ h.stamps
  pub sizes : Sizes (length ls) h.stamps

-- the list of each queue, read from the slices
abbrev pub lists : {T K : Type 0} {le : T → T → Bool} → Form le K → Heads → List K → List (Entry T) → List (List (Entry T))
lists F h ls es = map (λ (q : Queue). F.list (tree_at F.left F.right F.none ls es (length ls) q.root)) h.queues

abbrev pub state_of : {T K : Type 0} {le : T → T → Bool} → Form le K → Heads → List K → List (Entry T) → State T
state_of F h ls es = record { lists = lists F h ls es; next = h.next }

-- what the heads and the two slices mean
abbrev pub meaning_of : {T K : Type 0} {le : T → T → Bool} → Form le K → Heads → List K → List (Entry T) → Meaning T
meaning_of F h ls es = record { state = state_of F h ls es; fixed = bare_fixed (length ls) h.stamps; held = 0 }

-- the heads with another root and count for queue q
abbrev pub with_queue : Heads → ℕ → Option ℕ → ℕ → Heads
with_queue h q r c = record { queues = slice_set h.queues q (record { root = r; count = c }); free = h.free; next = h.next; stamps = h.stamps }

-- the heads with another first idle cell and next stamp
abbrev pub with_idle : Heads → Option ℕ → ℕ → Heads
with_idle h f n = record { queues = h.queues; free = f; next = n; stamps = h.stamps }

-- 32 empty queues
abbrev pub fresh_heads : Option ℕ → ℕ → Heads
fresh_heads f s = record { queues = replicate 32 no_queue; free = f; next = 0; stamps = s }

-- the kept root and count of queue q
abbrev pub kept_queue : Heads → ℕ → Result Queue Refusal
kept_queue h q = cond (nat_le 32 q) (Err QueueNumber) (Ok (slice_index_or h.queues q no_queue))

-- the entries after a put: an accepted one is written into the first idle cell, and nothing else changes
abbrev pub placed : {T : Type 0} → Result ℕ Refusal → Option ℕ → List (Entry T) → T → List (Entry T)
placed (Err f) o es x = es
placed (Ok n) None es x = es
placed (Ok n) (Some i) es x = slice_set es i (record { element = x; stamp = n })

-- what a making asks: how long both slices are, how many cells and stamps there shall be
pub record Fit (links entries cells stamps : ℕ) : Type 0 where
  pub sizes : Sizes cells stamps
  pub links_long : links ≡ cells
  pub entries_long : entries ≡ cells
