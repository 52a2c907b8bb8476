-- An order that waits, as a line of text: its number, its urgency and its due tick, with one space between them.
use Rattle.std.specs.Prelude.{◌≡◌, ℕ, ◌≤◌, List, [], ◌∷◌, map, Ok, Err, codes, decimal, Result}
use Rattle.elements.specs.declared.lines.LineEntry.{LineEntry}
use Rattle.scanner.specs.Numerals.{value}
use Rattle.scanner.specs.Templates.{fill, Filled}
use Rattle.waiting_orders.specs.declared.Unreadable.{Unreadable}
use Rattle.waiting_orders.specs.declared.Unreadable.TheVariants.{Malformed, OutOfRange}

abbrev pub order_form : List ℕ
order_form = codes "# # #"

abbrev pub numbers_of : LineEntry → List ℕ
numbers_of e = e.order ∷ e.urgency ∷ e.due ∷ []

-- the line of an order
abbrev pub written : LineEntry → List ℕ
written e = fill order_form (map decimal (numbers_of e))

-- the number of an order, its urgency and its due tick are in their ranges
abbrev pub InRange : List ℕ → Type 0
InRange [] = ⊥
InRange (i ∷ []) = ⊥
InRange (i ∷ u ∷ []) = ⊥
InRange (i ∷ u ∷ v ∷ []) = (i ≤ 1023) × (u ≤ 9) × (v ≤ 1000000000)
InRange (i ∷ u ∷ v ∷ x ∷ xs) = ⊥

-- read: the line is that of the order, and its numbers are in range. Refused: it has the form with a number out of
-- range, or it has not the form
abbrev pub Reads : List ℕ → Result LineEntry Unreadable → Type 0
Reads line (Ok e) = (line ≡ written e) × InRange (numbers_of e)
Reads line (Err OutOfRange) = (ds : List (List ℕ)) × Filled order_form line ds × (InRange (map value ds) → ⊥)
Reads line (Err Malformed) = (ds : List (List ℕ)) → Filled order_form line ds → ⊥

-- the number of the refusal
abbrev pub unreadable_number : Unreadable → ℕ
unreadable_number Malformed = 4
unreadable_number OutOfRange = 5
