-- An entry leaves a sorted list: from the front, or by its key.
use Rattle.std.proofs.Common.{◌≡◌, ℕ, ◌+◌, Bool, true, false, cond, eqb, List, [], ◌∷◌, length, arith}
use Rattle.std.specs.List.{AllByRecursion}
use Rattle.elements.specs.declared.entries.Entry.{Entry}
use Rattle.elements.specs.Order.{Strict}
use Rattle.stores.specs.SortedLists.{has, without, Leads, Sorted}
use Rattle.stores.specs.Calls.{rest}

module _ {A : Type 0} (before : A → A → Bool) (key : A → ℕ) (law : Strict before key) where
  leads_on : (x y : A) (xs : List A) → before x y ≡ true → Leads before y xs → Leads before x xs
  leads_on x y [] h p = tt
  leads_on x y (z ∷ xs) h p = law.transitive x y z h p

  -- the front of a sorted list is before all others
  pub front_before : (x : A) (xs : List A) → Sorted before (x ∷ xs) → AllByRecursion (λ y. before x y ≡ true) xs
  front_before x [] s = tt
  front_before x (y ∷ xs) s = (s.0, front_before x xs (leads_on x y xs s.0 s.1.0, s.1.1))

  leads_without : (k : ℕ) (x : A) (xs : List A) → Sorted before (x ∷ xs) → Leads before x (without key k xs)
  leads_without k x [] s = tt
  leads_without k x (y ∷ xs) s = elim (eqb (key y) k) as (λ b. Leads before x (cond b xs (y ∷ without key k xs))) [ true ↦ leads_on x y xs s.0 s.1.0 | false ↦ s.0 ]

  pub sorted_without : (k : ℕ) (xs : List A) → Sorted before xs → Sorted before (without key k xs)
  sorted_without k [] s = tt
  sorted_without k (x ∷ xs) s = elim (eqb (key x) k) as (λ b. Sorted before (cond b xs (x ∷ without key k xs))) [ true ↦ s.1 | false ↦ (leads_without k x xs s, sorted_without k xs s.1) ]

pub sorted_rest : {T : Type 0} (before : Entry T → Entry T → Bool) (xs : List (Entry T)) → Sorted before xs → Sorted before (rest xs)
sorted_rest before [] s = tt
sorted_rest before (x ∷ xs) s = s.1

pub length_without : {A : Type 0} (key : A → ℕ) (k : ℕ) (xs : List A) → has key k xs ≡ true → length (without key k xs) + 1 ≡ length xs
length_without key k [] h = absurd (let z : ◌≡◌ {A = ℕ} 0 1 = cc in omega arith)
length_without key k (x ∷ xs) h = let i = length_without key k xs in elim (eqb (key x) k) as (λ b. cond b true (has key k xs) ≡ true → length (cond b xs (x ∷ without key k xs)) + 1 ≡ length (x ∷ xs)) [ true ↦ (λ _. omega arith) | false ↦ (λ e. omega (arith, i e)) ] h
