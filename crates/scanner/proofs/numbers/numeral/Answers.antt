use Rattle.std.proofs.Common.{arith}
use Rattle.scanner.proofs.Digits.{only_numeral}
use Rattle.scanner.proofs.numbers.numeral.Goals as goal

pub returns-in-empty : goal.returns-in-empty
returns-in-empty c ds rest p st q =
    let front = only_numeral _ _ _ c.front-digits.ensures.bytes.is c.read_digits-count.ensures.digits c.read_digits-count.ensures.stop ds rest p st q in
    omega (arith, front.some)

pub returns-in-48 : goal.returns-in-48
returns-in-48 c ds rest p st q =
    let front = only_numeral _ _ _ c.front-digits.ensures.bytes.is c.read_digits-count.ensures.digits c.read_digits-count.ensures.stop ds rest p st q in
    omega (arith, front.first (omega arith))
