-- What the records by themselves tell of the orders.
use Rattle.std.specs.Prelude.{◌≡◌, ℕ, ◌+◌, Bool, true, false, cond, ◌||◌, List, [], ◌∷◌, ◌++◌, Some, None, Option, ◌==◌}
use Rattle.elements.specs.declared.lines.LineEntry.{LineEntry}
use Rattle.elements.specs.declared.entries.Entry.{Entry}
use Rattle.elements.specs.Elements.{line_le}
use Rattle.elements.specs.Order.{precedes_by}
use Rattle.machine.specs.declared.networks.Network.{Network}
use Rattle.machine.specs.declared.records.RecordKind.{RecordKind}
use Rattle.machine.specs.declared.records.RecordKind.TheVariants.{Start, Wait, Away, Withdrawn, Missed, Finish, Done, Close, Kept}
use Rattle.machine.specs.declared.records.Record.{Record}
use Rattle.machine.specs.Network.{line_entry}
use Rattle.machine_laws.specs.Runs.{Always}

-- Where an order waits: the line, and how many were put in lines before it. It is in the line of its last wait until its
-- next start or withdrawal, and a closing moves the line.

abbrev pub Place : Type 0
Place = Option (ℕ × ℕ)

abbrev pub moved : ℕ → ℕ → Place → Place
moved k j None = None
moved k j (Some p) = Some (cond (p.0 == k) j p.0, p.1)

-- order i's place after one record more, where n were put in lines before
abbrev pub place_after : ℕ → ℕ → RecordKind → Place → Place
place_after i n (Start j k) p = cond (j == i) None p
place_after i n (Wait j k) p = cond (j == i) (Some (k, n)) p
place_after i n (Away j k) p = p
place_after i n (Withdrawn j) p = cond (j == i) None p
place_after i n (Missed j) p = p
place_after i n (Finish j k) p = p
place_after i n (Done j) p = p
place_after i n (Close k j x) p = moved k j p
place_after i n (Kept k j) p = p

abbrev pub waits_in : RecordKind → ℕ
waits_in (Start j k) = 0
waits_in (Wait j k) = 1
waits_in (Away j k) = 0
waits_in (Withdrawn j) = 0
waits_in (Missed j) = 0
waits_in (Finish j k) = 0
waits_in (Done j) = 0
waits_in (Close k j x) = 0
waits_in (Kept k j) = 0

abbrev pub place_from : ℕ → ℕ → Place → List Record → Place
place_from i n p [] = p
place_from i n p (r ∷ rs) = place_from i (n + waits_in r.kind) (place_after i n r.kind p) rs

abbrev pub place : ℕ → List Record → Place
place i rs = place_from i 0 None rs

-- order i as it waits with that stamp
abbrev pub waiting : Network → ℕ → ℕ → Entry LineEntry
waiting n i s = record { element = line_entry n i; stamp = s }

-- after these records, nobody who waits in line k precedes order i there
abbrev pub Unpreceded : Network → List Record → ℕ → ℕ → Type 0
Unpreceded n rs i k = (s j t : ℕ) → place i rs ≡ Some (k, s) → place j rs ≡ Some (k, t) → precedes_by line_le (waiting n j t) (waiting n i s) ≡ false

abbrev pub started : ℕ → ℕ → ℕ → Record
started t i k = record { at = t; kind = Start i k }

-- whoever is started from a line is preceded by nobody who waits in it
abbrev pub FrontFirst : Type 0
FrontFirst = Always (λ m. (xs ys : List Record) (t i k : ℕ) → m.records ≡ xs ++ (started t i k ∷ ys) → Unpreceded m.network xs i k)

-- whether order i finishes in these records
abbrev pub finish_of : ℕ → RecordKind → Bool
finish_of i (Start j k) = false
finish_of i (Wait j k) = false
finish_of i (Away j k) = false
finish_of i (Withdrawn j) = false
finish_of i (Missed j) = false
finish_of i (Finish j k) = j == i
finish_of i (Done j) = false
finish_of i (Close k j x) = false
finish_of i (Kept k j) = false

abbrev pub finishes : ℕ → List Record → Bool
finishes i [] = false
finishes i (r ∷ rs) = finish_of i r.kind || finishes i rs

-- between two starts of an order it finished
abbrev pub FinishedBetween : Type 0
FinishedBetween = Always (λ m. (xs ys zs : List Record) (t u i k l : ℕ) → m.records ≡ xs ++ (started t i k ∷ (ys ++ (started u i l ∷ zs))) → finishes i ys ≡ true)
