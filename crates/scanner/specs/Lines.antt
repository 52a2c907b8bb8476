-- The lines of a text. A line ends with byte 10, which the last may lack.
use Rattle.std.specs.Prelude.{ℕ, ◌+◌, min, Bool, cond, not, List, [], ◌∷◌, length, ◌==◌}
use Rattle.std.specs.List.{prefix_len}

-- the byte is not the end of a line
abbrev pub inside : ℕ → Bool
inside b = not (b == 10)

-- how many bytes the first line has, without its end
abbrev pub width : List ℕ → ℕ
width text = prefix_len inside text

-- the byte at which the next line begins; where there is none, the end of the text
abbrev pub next_line : List ℕ → ℕ
next_line text = min (width text + 1) (length text)

-- b in front of the first line
abbrev pub in_front : ℕ → List (List ℕ) → List (List ℕ)
in_front b [] = (b ∷ []) ∷ []
in_front b (l ∷ ls) = (b ∷ l) ∷ ls

-- the lines of a text, without their ends
abbrev pub lines_of : List ℕ → List (List ℕ)
lines_of [] = []
lines_of (b ∷ bs) = cond (inside b) (in_front b (lines_of bs)) ([] ∷ lines_of bs)
