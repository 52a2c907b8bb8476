use Rattle.std.proofs.Common.{◌∙◌}
use Rattle.std.proofs.ByRecursion.{All-more}
use Rattle.scanner.specs.Numerals.{Digit}
use Rattle.scanner.proofs.Digits.{told_more}
use Rattle.scanner.proofs.numerals.read_digits.Goals as goal

pub loop-count-preserved : goal.loop-count-preserved
loop-count-preserved c =
    let s = c.args.s.now in
    let i = c.loop-count.count in
    record {
      digits = All-more Digit s i 0 c.loop-count-test.true c.loop-count.invariant.digits c.if-not-is_ascii_digit.ensures.cases;
      number = c.extended-number.ensures ∙ told_more s i _ c.loop-count-test.true c.loop-count.invariant.number;
    }
