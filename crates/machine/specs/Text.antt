-- What is printed: each line as its bytes, with the byte 10 at its end.
use Rattle.std.specs.Prelude.{ℕ, List, [], ◌∷◌, ◌++◌, Some, None, codes, decimal, Option}
use Rattle.stores.specs.Refusals.{number_of, height_of}
use Rattle.machine.specs.declared.records.RecordKind.{RecordKind}
use Rattle.machine.specs.declared.records.RecordKind.TheVariants.{Start, Wait, Away, Withdrawn, Missed, Finish, Done, Close, Kept}
use Rattle.machine.specs.declared.records.Record.{Record}
use Rattle.machine.specs.declared.records.StoreName.{StoreName}
use Rattle.machine.specs.declared.records.StoreName.TheVariants.{Events, Orders}
use Rattle.machine.specs.declared.records.Fault.{Fault}
use Rattle.machine.specs.declared.records.Totals.{Totals}
use Rattle.machine.specs.Closing.{inside}

-- a bracket: a word, and its parts, each after a space
abbrev pub spaced : List (List ℕ) → List ℕ
spaced [] = codes ")"
spaced (p ∷ ps) = codes " " ++ (p ++ spaced ps)

abbrev pub bracket : List ℕ → List (List ℕ) → List ℕ
bracket word parts = codes "(" ++ (word ++ spaced parts)

abbrev pub ended_line : List ℕ → List ℕ
ended_line bytes = bytes ++ (10 ∷ [])

abbrev pub kind_text : RecordKind → List ℕ
kind_text (Start i k) = bracket (codes "start") (decimal i ∷ decimal k ∷ [])
kind_text (Wait i k) = bracket (codes "wait") (decimal i ∷ decimal k ∷ [])
kind_text (Away i k) = bracket (codes "away") (decimal i ∷ decimal k ∷ [])
kind_text (Withdrawn i) = bracket (codes "withdrawn") (decimal i ∷ [])
kind_text (Missed i) = bracket (codes "missed") (decimal i ∷ [])
kind_text (Finish i k) = bracket (codes "finish") (decimal i ∷ decimal k ∷ [])
kind_text (Done i) = bracket (codes "done") (decimal i ∷ [])
kind_text (Close k j n) = bracket (codes "close") (decimal k ∷ decimal j ∷ decimal n ∷ [])
kind_text (Kept k j) = bracket (codes "kept") (decimal k ∷ decimal j ∷ [])

-- (at T (word numbers))
abbrev pub record_line : Record → List ℕ
record_line r = ended_line (bracket (codes "at") (decimal r.at ∷ kind_text r.kind ∷ []))

abbrev pub record_lines : List Record → List ℕ
record_lines [] = []
record_lines (r ∷ rs) = record_line r ++ record_lines rs

abbrev pub counted : List ℕ → ℕ → List ℕ
counted word n = bracket word (decimal n ∷ [])

-- (end T (done a) (away b) (withdrawn c) (inside d))
abbrev pub end_line : ℕ → Totals → List ℕ
end_line t x = ended_line (bracket (codes "end") (decimal t ∷ counted (codes "done") x.done ∷ counted (codes "away") x.away ∷ counted (codes "withdrawn") x.withdrawn ∷ counted (codes "inside") (inside x) ∷ []))

abbrev pub store_text : StoreName → List ℕ
store_text Events = codes "events"
store_text Orders = codes "orders"

-- (fault T (cause N) (store events) (layer H))
abbrev pub fault_line : Fault → List ℕ
fault_line f = ended_line (bracket (codes "fault") (decimal f.instant ∷ counted (codes "cause") (number_of f.refusal) ∷ bracket (codes "store") (store_text f.store ∷ []) ∷ counted (codes "layer") (height_of f.refusal) ∷ []))

-- (refused N (line L)), with the layer's height where one is told
abbrev pub layer_part : Option ℕ → List (List ℕ)
layer_part None = []
layer_part (Some h) = counted (codes "layer") h ∷ []

abbrev pub refused_line : ℕ → ℕ → Option ℕ → List ℕ
refused_line n l h = ended_line (bracket (codes "refused") (decimal n ∷ counted (codes "line") l ∷ layer_part h))
