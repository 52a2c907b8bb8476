-- The order in which a bench serves orders that wait: by urgency, then by due tick, then by their place in the list.
use Rattle.std.specs.Prelude.{◌≡◌, ℕ, ◌+◌, Bool, true, List, [], ◌∷◌, map}
use Rattle.std.specs.List.{AllByRecursion}
use Rattle.elements.specs.declared.entries.Entry.{Entry}
use Rattle.elements.specs.declared.lines.LineEntry.{LineEntry}
use Rattle.elements.specs.Elements.{line_le}
use Rattle.elements.specs.Order.{precedes_by}
use Rattle.stores.specs.SortedLists.{insert}

-- each element with its place as its stamp, the first with n
abbrev pub numbered : {T : Type 0} → ℕ → List T → List (Entry T)
numbered n [] = []
numbered n (x ∷ xs) = record { element = x; stamp = n } ∷ numbered (n + 1) xs

abbrev pub insertion_sort : {A : Type 0} → (A → A → Bool) → List A → List A
insertion_sort before [] = []
insertion_sort before (x ∷ xs) = insert before x (insertion_sort before xs)

-- each comes before all that follow it
abbrev pub Ranked : {A : Type 0} → (A → A → Bool) → List A → Type 0
Ranked before [] = Unit {0}
Ranked before (x ∷ xs) = AllByRecursion (λ y. before x y ≡ true) xs × Ranked before xs

abbrev pub elements_of : {T : Type 0} → List (Entry T) → List T
elements_of es = map (λ e. e.element) es

-- the elements with their places, as they are served
abbrev pub service : {T : Type 0} → (T → T → Bool) → List T → List (Entry T)
service le xs = insertion_sort (precedes_by le) (numbered 0 xs)

abbrev pub service_order : List LineEntry → List LineEntry
service_order orders = elements_of (service line_le orders)
