-- How often something is in a store.
use Rattle.std.specs.Prelude.{ℕ, ◌+◌, List, [], ◌∷◌, sum_by}
use Rattle.elements.specs.declared.entries.Entry.{Entry}
use Rattle.stores.specs.Meaning.{State}

-- what f gives of each queue's number and entry, summed over the queues from number q on
abbrev pub total_from : {T : Type 0} → (ℕ → Entry T → ℕ) → ℕ → List (List (Entry T)) → ℕ
total_from f q [] = 0
total_from f q (xs ∷ xss) = sum_by (f q) xs + total_from f (q + 1) xss

abbrev pub total : {T : Type 0} → (ℕ → Entry T → ℕ) → State T → ℕ
total f s = total_from f 0 s.lists
