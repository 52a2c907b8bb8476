use Rattle.std.proofs.Common.{length, refl, arith}
use Rattle.scanner.proofs.Cutting.{part_cut}
use Rattle.scanner.proofs.tokens.front.Goals as goal

pub returns : goal.returns
returns c =
    let text = c.args.text in
    let size = c.args.size in
    record {
      bytes = part_cut text _ _ _ 0 size refl (omega arith) (omega (arith, c.requires)) refl refl refl;
      rest = part_cut text _ _ _ size (length text.now) refl (omega (arith, c.requires)) (omega (arith, c.requires)) refl refl refl;
    }
