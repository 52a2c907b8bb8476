-- One line more is printed.
use Rattle.std.proofs.Common.{◌≡◌, ℕ, ◌+◌, ◌<◌, List, [], ◌∷◌, ◌++◌, length, get_or, take, sym, ap, ◌∙◌, append_assoc, append-nil}
use Rattle.std.proofs.lemmas.List.{take_more}
use Rattle.elements.specs.declared.lines.LineEntry.{LineEntry}
use Rattle.service_reports.specs.Texts.{take_line, take_lines}

take_lines_push : (es : List LineEntry) (e : LineEntry) → take_lines (es ++ e ∷ []) ≡ take_lines es ++ take_line e.order
take_lines_push [] e = append-nil (take_line e.order)
take_lines_push (x ∷ es) e =
    ap (λ l. take_line x.order ++ l) (take_lines_push es e)
    ∙ sym (append_assoc (take_line x.order) (take_lines es) (take_line e.order))

take_lines_more : (es : List LineEntry) (i : ℕ) (d : LineEntry) → i < length es → take_lines (take (i + 1) es) ≡ take_lines (take i es) ++ take_line (get_or es i d).order
take_lines_more es i d here = ap take_lines (take_more es i d here) ∙ take_lines_push (take i es) (get_or es i d)

-- the line of the next order is appended to the text so far
pub one_taken : (es : List LineEntry) (i : ℕ) (d : LineEntry) (text more : List ℕ) → text ≡ take_lines (take i es) → i < length es → more ≡ text ++ take_line (get_or es i d).order → more ≡ take_lines (take (i + 1) es)
one_taken es i d text more so_far here more-is = more-is ∙ ap (λ l. l ++ take_line (get_or es i d).order) so_far ∙ sym (take_lines_more es i d here)
