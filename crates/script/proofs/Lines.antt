-- The lines of a script are the lines of a text.
use Rattle.std.proofs.Common.{◌≡◌, ℕ, Bool, true, false, cond, not, eqb, List, [], ◌∷◌, refl, ap, ◌∙◌}
use Rattle.scanner.specs.Lines.{in_front, lines_of}
use Rattle.machine.specs.Script.{first_longer, script_lines}

same_front : (b : ℕ) (ls : List (List ℕ)) → first_longer b ls ≡ in_front b ls
same_front b [] = refl
same_front b (l ∷ ls) = refl

same_by : (v : Bool) (b : ℕ) (ls ms : List (List ℕ)) → ls ≡ ms → elim v [ true ↦ [] ∷ ls | false ↦ first_longer b ls ] ≡ cond (not v) (in_front b ms) ([] ∷ ms)
same_by true b ls ms e = ap (λ l. [] ∷ l) e
same_by false b ls ms e = same_front b ls ∙ ap (in_front b) e

pub same_lines : (script : List ℕ) → script_lines script ≡ lines_of script
same_lines [] = refl
same_lines (b ∷ bs) = same_by (eqb b 10) b (script_lines bs) (lines_of bs) (same_lines bs)
