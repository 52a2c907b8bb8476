-- Sorted lists: insertion, joining and removal. `before x y` is the test by which x comes before y.
use Rattle.std.specs.Prelude.{◌≡◌, ℕ, ◌+◌, Bool, true, false, cond, List, [], ◌∷◌, ◌==◌}

-- x, and what `others` makes of the list from there on, in front of the first of ys that is not before x
abbrev pub merge_at : {A : Type 0} → (A → A → Bool) → A → (List A → List A) → List A → List A
merge_at before x others [] = x ∷ others []
merge_at before x others (y ∷ ys) = elim (before y x) [ true ↦ y ∷ merge_at before x others ys | false ↦ x ∷ others (y ∷ ys) ]

-- the sorted joining of two sorted lists
abbrev pub merge : {A : Type 0} → (A → A → Bool) → List A → List A → List A
merge before [] ys = ys
merge before (x ∷ xs) ys = merge_at before x (merge before xs) ys

-- one element enters a sorted list
abbrev pub insert : {A : Type 0} → (A → A → Bool) → A → List A → List A
insert before x ys = merge before (x ∷ []) ys

-- some element of the list has the key k
abbrev pub has : {A : Type 0} → (A → ℕ) → ℕ → List A → Bool
has key k [] = false
has key k (x ∷ xs) = cond (key x == k) true (has key k xs)

-- the list without the first element that has the key k
abbrev pub without : {A : Type 0} → (A → ℕ) → ℕ → List A → List A
without key k [] = []
without key k (x ∷ xs) = cond (key x == k) xs (x ∷ without key k xs)

-- how many elements have the key k
abbrev pub tally : {A : Type 0} → (A → ℕ) → List A → ℕ → ℕ
tally key [] k = 0
tally key (x ∷ xs) k = cond (key x == k) 1 0 + tally key xs k

-- x is before the first of the list
abbrev pub Leads : {A : Type 0} → (A → A → Bool) → A → List A → Type 0
Leads before x [] = Unit {0}
Leads before x (y ∷ ys) = before x y ≡ true

-- each element is before the next
abbrev pub Sorted : {A : Type 0} → (A → A → Bool) → List A → Type 0
Sorted before [] = Unit {0}
Sorted before (x ∷ xs) = Leads before x xs × Sorted before xs
