use Rattle.std.proofs.Common.{◌≡◌, ◌+◌, min, length, refl, ap, ◌∙◌, arith}
use Rattle.scanner.specs.Lines.{next_line}
use Rattle.scanner.proofs.Cutting.{part_cut}
use Rattle.scanner.proofs.Splitting.{line_then_rest, rest_shorter, width_within}
use Rattle.scanner.proofs.lines.first_line.Goals as goal

pub returns : goal.returns
returns c =
    let text = c.args.text in
    let end = c.line_width-end.ensures.value in
    let within = width_within text.now in
    let next : c.min-next.result ≡ next_line text.now = c.min-next.ensures ∙ ap (λ w. min (w + 1) (length text.now)) end in
    record {
      token = record {
        bytes = part_cut text _ _ _ 0 _ refl (omega (arith, end)) (omega (arith, within)) refl refl refl;
        rest = part_cut text _ _ _ c.min-next.result (length text.now) next (omega arith) (omega arith) refl refl refl;
      };
      lines = line_then_rest text.now _ next _ end;
      shorter = rest_shorter text.now _ next;
    }
