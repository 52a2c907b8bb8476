-- Lines that are written by a template: bytes that stand as they are, and gaps for numerals, marked by the byte `#`.
use Rattle.std.specs.Prelude.{◌≡◌, ℕ, ◌+◌, Bool, true, cond, not, ◌&&◌, ◌||◌, List, [], ◌∷◌, ◌++◌, map, length, Some, None, Option, ◌==◌, nat_le}
use Rattle.std.specs.List.{AllByRecursion}
use Rattle.scanner.specs.Numerals.{Numeral, told}

-- the byte `#`
abbrev pub gap : ℕ → Bool
gap c = c == 35

-- how many gaps the template has
abbrev pub gaps : List ℕ → ℕ
gaps [] = 0
gaps (c ∷ t) = cond (gap c) (gaps t + 1) (gaps t)

-- the first of the numerals, and what `others` writes with the rest of them
abbrev pub fill_gap : (List (List ℕ) → List ℕ) → List (List ℕ) → List ℕ
fill_gap others [] = []
fill_gap others (d ∷ ds) = d ++ others ds

-- what the template writes with the numerals in its gaps
abbrev pub fill : List ℕ → List (List ℕ) → List ℕ
fill [] ds = []
fill (c ∷ t) ds = cond (gap c) (fill_gap (fill t) ds) (c ∷ fill t ds)

-- the line is what the template writes with these numerals, one for each gap
pub record Filled (t line : List ℕ) (ds : List (List ℕ)) : Type 0 where
  pub numerals : AllByRecursion Numeral ds
  pub count : length ds ≡ gaps t
  pub is : line ≡ fill t ds

-- it begins neither with a digit nor with a gap
abbrev pub parted : List ℕ → Bool
parted [] = true
parted (c ∷ t) = not (gap c) && (not (nat_le 48 c) || not (nat_le c 57))

-- no gap is followed by a digit or another gap, so that one sees where a numeral ends
abbrev pub clear : List ℕ → Bool
clear [] = true
clear (c ∷ t) = cond (gap c) (parted t && clear t) (clear t)

-- n numbers are told of a line that the template writes; none where it writes no such line
abbrev pub Scans : ℕ → List ℕ → List ℕ → Option (List ℕ) → Type 0
Scans n t line (Some ns) = (ds : List (List ℕ)) × Filled t line ds × (ns ≡ map told ds)
Scans n t line None = gaps t ≡ n → clear t ≡ true → (ds : List (List ℕ)) → Filled t line ds → ⊥
