-- How many entries a store has, before and after a call.
use Rattle.std.proofs.Common.{◌≡◌, ℕ, zero, suc, ◌+◌, ◌<◌, Bool, true, false, ◌⊎◌, List, [], ◌∷◌, length, get_or, Some, Ok, sum_by, sym, ap, ◌∙◌, inl, inr, arith}
use Rattle.std.proofs.lemmas.List.{length-set, get_or-set_other}
use Rattle.std.proofs.lemmas.List.Sums.{sum_by-cons, sum_by-set}
use Rattle.std.proofs.lemmas.Bool.{cases_Bool, cond-true, cond-false}
use Rattle.elements.specs.declared.entries.Entry.{Entry}
use Rattle.elements.specs.Order.{precedes_by, stamp_of}
use Rattle.stores.specs.SortedLists.{merge, insert, has, without}
use Rattle.stores.specs.Meaning.{State, list_of, live}
use Rattle.stores.specs.Calls.{put_after, take_after, meld_after, cancel_after, with_list, front, rest, queue_with}
use Rattle.stores.specs.Laws.{AddsUp}
use Rattle.stores.proofs.Merging.{take_left, take_right}
use Rattle.stores.proofs.Inserting.{length-merge, length-insert}
use Rattle.stores.proofs.Removing.{length_without}

-- what is summed over a joining is summed over both lists
module _ {A : Type 0} (before : A → A → Bool) (f : A → ℕ) where
  sum_2 : (x : A) (xs : List A) → ((us : List A) → sum_by f (merge before xs us) ≡ sum_by f xs + sum_by f us) → (ys : List A) → sum_by f (merge before (x ∷ xs) ys) ≡ sum_by f (x ∷ xs) + sum_by f ys
  sum_2 x xs ih [] = omega (arith, ih [], sum_by-cons f x xs, sum_by-cons f x (merge before xs []))
  sum_2 x xs ih (y ∷ ys) = go (cases_Bool (before y x)) (sum_2 x xs ih ys) (ih (y ∷ ys))
    where
      go : (before y x ≡ true) ⊎ (before y x ≡ false) → sum_by f (merge before (x ∷ xs) ys) ≡ sum_by f (x ∷ xs) + sum_by f ys → sum_by f (merge before xs (y ∷ ys)) ≡ sum_by f xs + sum_by f (y ∷ ys) → sum_by f (merge before (x ∷ xs) (y ∷ ys)) ≡ sum_by f (x ∷ xs) + sum_by f (y ∷ ys)
      go (inl a) r s = ap (sum_by f) (take_right before x xs y ys a) ∙ omega (arith, r, sum_by-cons f y ys, sum_by-cons f y (merge before (x ∷ xs) ys))
      go (inr a) r s = ap (sum_by f) (take_left before x xs y ys a) ∙ omega (arith, s, sum_by-cons f x xs, sum_by-cons f x (merge before xs (y ∷ ys)))

  pub sum_merge : (xs ys : List A) → sum_by f (merge before xs ys) ≡ sum_by f xs + sum_by f ys
  sum_merge [] ys = omega arith
  sum_merge (x ∷ xs) ys = sum_2 x xs (sum_merge xs) ys

module _ {T : Type 0} where
  -- a queue out of range has no front
  within : (xss : List (List (Entry T))) (q : ℕ) (e : Entry T) → front (get_or xss q []) ≡ Some e → q < length xss
  within [] q e h = absurd (let z : ◌≡◌ {A = ℕ} 0 1 = cc in omega arith)
  within (xs ∷ xss) zero e h = omega arith
  within (xs ∷ xss) (suc q) e h = omega (arith, within xss q e h)

  length_rest : (xs : List (Entry T)) (e : Entry T) → front xs ≡ Some e → length (rest xs) + 1 ≡ length xs
  length_rest [] e h = absurd (let z : ◌≡◌ {A = ℕ} 0 1 = cc in omega arith)
  length_rest (x ∷ xs) e h = omega arith

  -- where the search for a stamp ends
  pub found_there : (k : ℕ) (xss : List (List (Entry T))) (from q : ℕ) → queue_with k xss from ≡ Some q → (i : ℕ) × (q ≡ from + i) × (i < length xss) × (has stamp_of k (get_or xss i []) ≡ true)
  found_there k [] from q h = absurd (let z : ◌≡◌ {A = ℕ} 0 1 = cc in omega arith)
  found_there k (xs ∷ xss) from q h = go (cases_Bool (has stamp_of k xs)) (found_there k xss (from + 1) q)
    where
      go : (has stamp_of k xs ≡ true) ⊎ (has stamp_of k xs ≡ false) → (queue_with k xss (from + 1) ≡ Some q → (i : ℕ) × (q ≡ (from + 1) + i) × (i < length xss) × (has stamp_of k (get_or xss i []) ≡ true)) → (i : ℕ) × (q ≡ from + i) × (i < length (xs ∷ xss)) × (has stamp_of k (get_or (xs ∷ xss) i []) ≡ true)
      go (inl a) later =
          let e : Some from ≡ Some q = sym (cond-true (has stamp_of k xs) (Some from) (queue_with k xss (from + 1)) a) ∙ h in
          let same : from ≡ q = cc in
          (0, omega (arith, same), omega arith, a)
      go (inr a) later =
          let p = later (sym (cond-false (has stamp_of k xs) (Some from) (queue_with k xss (from + 1)) a) ∙ h) in
          (suc p.0, omega (arith, p.1), omega (arith, p.2), p.3)

  -- another list for one queue
  pub live_with : (s : State T) (q : ℕ) (xs : List (Entry T)) → q < length s.lists → live (with_list s q xs) + length (list_of s q) ≡ live s + length xs
  live_with s q xs h = sum_by-set length s.lists q xs [] h

pub adds_up : {T : Type 0} (le : T → T → Bool) → AddsUp le
adds_up {T} le = record { put = put; take = take; meld = meld; cancel = cancel }
  where
    put : (s : State T) (q : ℕ) (x : T) (n : ℕ) → q < length s.lists → live (put_after le s q x (Ok n)) ≡ live s + 1
    put s q x n h =
        let e : Entry T = record { element = x; stamp = n } in
        omega (arith, live_with s q (insert (precedes_by le) e (list_of s q)) h, length-insert (precedes_by le) e (list_of s q))

    take : (s : State T) (q : ℕ) (e : Entry T) → front (list_of s q) ≡ Some e → live (take_after s q (Ok (Some e))) + 1 ≡ live s
    take s q e h = omega (arith, live_with s q (rest (list_of s q)) (within s.lists q e h), length_rest (list_of s q) e h)

    meld : (s : State T) (a b n : ℕ) → a < length s.lists → b < length s.lists → (a ≡ b → ⊥) → live (meld_after le s a b (Ok n)) ≡ live s
    meld s a b n h k ne =
        let joined = merge (precedes_by le) (list_of s a) (list_of s b) in
        let t = with_list s a joined in
        omega (arith, live_with s a joined h, live_with t b [] (omega (arith, length-set s.lists a joined)), length-merge (precedes_by le) (list_of s a) (list_of s b), ap length (get_or-set_other s.lists a b joined [] (λ e. ne (sym e))))

    cancel : (s : State T) (k q : ℕ) → queue_with k s.lists 0 ≡ Some q → live (cancel_after s k (Ok q)) + 1 ≡ live s
    cancel s k q h = go (found_there k s.lists 0 q h)
      where
        go : (i : ℕ) × (q ≡ 0 + i) × (i < length s.lists) × (has stamp_of k (get_or s.lists i []) ≡ true) → live (cancel_after s k (Ok q)) + 1 ≡ live s
        go p =
            let same : q ≡ p.0 = omega (arith, p.1) in
            ap (λ (j : ℕ). live (cancel_after s k (Ok j)) + 1) same
            ∙ omega (arith, live_with s p.0 (without stamp_of k (list_of s p.0)) p.2, length_without stamp_of k (list_of s p.0) p.3)
