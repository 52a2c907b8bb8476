-- Laws of the definitions: what sorted insertion, joining and removal keep, and how the counts add up.
use Rattle.std.specs.Prelude.{◌≡◌, ℕ, ◌+◌, ◌<◌, ◌≤◌, Bool, true, List, [], ◌∷◌, length, Some, Ok, count_by, ◌≢◌}
use Rattle.std.specs.List.{AllByRecursion}
use Rattle.elements.specs.declared.entries.Entry.{Entry}
use Rattle.elements.specs.Order.{precedes_by, stamp_of}
use Rattle.stores.specs.SortedLists.{merge, insert, without, tally, Sorted}
use Rattle.stores.specs.Meaning.{State, list_of, live}
use Rattle.stores.specs.Calls.{put_after, take_after, meld_after, cancel_after, front, rest, queue_with}

-- no stamp is twice in xs and ys together
abbrev pub Distinct : {T : Type 0} → List (Entry T) → List (Entry T) → Type 0
Distinct xs ys = (k : ℕ) → tally stamp_of xs k + tally stamp_of ys k ≤ 1

module _ {T : Type 0} (le : T → T → Bool) where
  -- a sorted list stays sorted
  pub record StaysSorted : Type 0 where
    pub insertion : (x : Entry T) (xs : List (Entry T)) → Distinct (x ∷ []) xs → Sorted (precedes_by le) xs → Sorted (precedes_by le) (insert (precedes_by le) x xs)
    pub joining : (xs ys : List (Entry T)) → Distinct xs ys → Sorted (precedes_by le) xs → Sorted (precedes_by le) ys → Sorted (precedes_by le) (merge (precedes_by le) xs ys)
    pub taking : (xs : List (Entry T)) → Sorted (precedes_by le) xs → Sorted (precedes_by le) (rest xs)
    pub removal : (k : ℕ) (xs : List (Entry T)) → Sorted (precedes_by le) xs → Sorted (precedes_by le) (without stamp_of k xs)

  -- an accepted put adds one entry, a take or a cancel removes one, a meld moves them
  pub record AddsUp : Type 0 where
    pub put : (s : State T) (q : ℕ) (x : T) (n : ℕ) → q < length s.lists → live (put_after le s q x (Ok n)) ≡ live s + 1
    pub take : (s : State T) (q : ℕ) (e : Entry T) → front (list_of s q) ≡ Some e → live (take_after s q (Ok (Some e))) + 1 ≡ live s
    pub meld : (s : State T) (a b n : ℕ) → a < length s.lists → b < length s.lists → (a ≢ b) → live (meld_after le s a b (Ok n)) ≡ live s
    pub cancel : (s : State T) (k q : ℕ) → queue_with k s.lists 0 ≡ Some q → live (cancel_after s k (Ok q)) + 1 ≡ live s

  -- the joining has every entry of both lists as often as they have it, whatever is asked of entries; where no stamp is
  -- twice, it does not matter which list comes first, nor in which order three are joined
  pub record IsJoining : Type 0 where
    pub members : (test : Entry T → Bool) (xs ys : List (Entry T)) → count_by test (merge (precedes_by le) xs ys) ≡ count_by test xs + count_by test ys
    pub either_way : (xs ys : List (Entry T)) → Distinct xs ys → merge (precedes_by le) xs ys ≡ merge (precedes_by le) ys xs
    pub any_grouping : (xs ys zs : List (Entry T)) → merge (precedes_by le) (merge (precedes_by le) xs ys) zs ≡ merge (precedes_by le) xs (merge (precedes_by le) ys zs)

  -- the front of a sorted list precedes all others
  abbrev pub FrontPrecedes : Type 0
  FrontPrecedes = (x : Entry T) (xs : List (Entry T)) → Sorted (precedes_by le) (x ∷ xs) → AllByRecursion (λ y. precedes_by le x y ≡ true) xs
