-- What each call answers and what it leaves.
use Rattle.std.specs.Prelude.{ℕ, ◌+◌, Bool, cond, ◌||◌, List, [], ◌∷◌, Some, None, Ok, Err, Option, Result, ◌==◌, nat_le, slice_set}
use Rattle.elements.specs.declared.entries.Entry.{Entry}
use Rattle.elements.specs.Order.{precedes_by, stamp_of}
use Rattle.stores.specs.declared.refusals.Refusal.{Refusal}
use Rattle.stores.specs.declared.refusals.Refusal.TheVariants.{QueueNumber, SameQueue, AtLimit, NoCell, NoStamp, NotQueued}
use Rattle.stores.specs.SortedLists.{merge, insert, has, without}
use Rattle.stores.specs.Meaning.{State, Meaning, list_of, count_of, live, limits_of, reached, reached_height}

-- the state with another list for queue q
abbrev pub with_list : {T : Type 0} → State T → ℕ → List (Entry T) → State T
with_list s q xs = record { lists = slice_set s.lists q xs; next = s.next }

-- put: refused for the queue's number, its limits, the cells, the stamps; else the stamp
abbrev pub put_answer : {T : Type 0} → Meaning T → ℕ → Result ℕ Refusal
put_answer m q =
    cond (nat_le 32 q) (Err QueueNumber)
    (cond (reached (limits_of m.fixed q) (count_of m.state q)) (Err (AtLimit (reached_height (limits_of m.fixed q) (count_of m.state q))))
    (cond (live m.state + m.held == m.fixed.cells) (Err NoCell)
    (cond (m.state.next == m.fixed.stamps) (Err NoStamp)
    (Ok m.state.next))))

abbrev pub put_after : {T : Type 0} → (T → T → Bool) → State T → ℕ → T → Result ℕ Refusal → State T
put_after le s q x (Err f) = s
put_after le s q x (Ok n) = record { lists = slice_set s.lists q (insert (precedes_by le) (record { element = x; stamp = n }) (list_of s q)); next = n + 1 }

abbrev pub front : {T : Type 0} → List (Entry T) → Option (Entry T)
front [] = None
front (x ∷ xs) = Some x

abbrev pub rest : {T : Type 0} → List (Entry T) → List (Entry T)
rest [] = []
rest (x ∷ xs) = xs

-- first and take: the front entry, or none
abbrev pub first_answer : {T : Type 0} → State T → ℕ → Result (Option (Entry T)) Refusal
first_answer s q = cond (nat_le 32 q) (Err QueueNumber) (Ok (front (list_of s q)))

abbrev pub take_after : {T : Type 0} → State T → ℕ → Result (Option (Entry T)) Refusal → State T
take_after s q (Err f) = s
take_after s q (Ok None) = s
take_after s q (Ok (Some e)) = with_list s q (rest (list_of s q))

-- meld: how many moved from b into a
abbrev pub meld_answer : {T : Type 0} → State T → ℕ → ℕ → Result ℕ Refusal
meld_answer s a b = cond (nat_le 32 a || nat_le 32 b) (Err QueueNumber) (cond (a == b) (Err SameQueue) (Ok (count_of s b)))

abbrev pub meld_after : {T : Type 0} → (T → T → Bool) → State T → ℕ → ℕ → Result ℕ Refusal → State T
meld_after le s a b (Err f) = s
meld_after le s a b (Ok n) = with_list (with_list s a (merge (precedes_by le) (list_of s a) (list_of s b))) b []

abbrev pub count_answer : {T : Type 0} → State T → ℕ → Result ℕ Refusal
count_answer s q = cond (nat_le 32 q) (Err QueueNumber) (Ok (count_of s q))

-- the number of the first queue that has an entry with the stamp k, where the lists begin with queue q
abbrev pub queue_with : {T : Type 0} → ℕ → List (List (Entry T)) → ℕ → Option ℕ
queue_with k [] q = None
queue_with k (xs ∷ xss) q = cond (has stamp_of k xs) (Some q) (queue_with k xss (q + 1))

abbrev pub found : ℕ → Option ℕ → Result ℕ Refusal
found h None = Err (NotQueued h)
found h (Some q) = Ok q

-- cancel: the number of the entry's queue
abbrev pub cancel_answer : {T : Type 0} → Meaning T → ℕ → Result ℕ Refusal
cancel_answer m k = found m.fixed.cancelling (queue_with k m.state.lists 0)

abbrev pub cancel_after : {T : Type 0} → State T → ℕ → Result ℕ Refusal → State T
cancel_after s k (Err f) = s
cancel_after s k (Ok q) = with_list s q (without stamp_of k (list_of s q))
