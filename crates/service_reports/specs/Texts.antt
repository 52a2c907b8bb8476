-- The lines that are printed, each with byte 10 at its end.
use Rattle.std.specs.Prelude.{ℕ, List, [], ◌∷◌, ◌++◌, length, codes, decimal}
use Rattle.elements.specs.declared.lines.LineEntry.{LineEntry}
use Rattle.scanner.specs.Templates.{fill}

-- a bench takes the order
abbrev pub take_line : ℕ → List ℕ
take_line order = fill (codes "(take #)\n") (decimal order ∷ [])

-- so many were taken
abbrev pub taken_line : ℕ → List ℕ
taken_line count = fill (codes "(taken #)\n") (decimal count ∷ [])

abbrev pub take_lines : List LineEntry → List ℕ
take_lines [] = []
take_lines (e ∷ es) = take_line e.order ++ take_lines es

-- all that are taken, and how many
abbrev pub service_text : List LineEntry → List ℕ
service_text served = take_lines served ++ taken_line (length served)

-- a line of the input is refused
abbrev pub refused_line : ℕ → ℕ → List ℕ
refused_line number line = fill (codes "(refused # (line #))\n") (decimal number ∷ decimal line ∷ [])

-- the store refuses the order of a line, and the layer of that height says so
abbrev pub refused_order : ℕ → ℕ → ℕ → List ℕ
refused_order number line height = fill (codes "(refused # (line #) (layer #))\n") (decimal number ∷ decimal line ∷ decimal height ∷ [])
