use Rattle.std.proofs.Common.{arith}
use Rattle.std.proofs.lemmas.Grind.{common_steps}
use Rattle.trace.proofs.Putting.{first_digit, last_digit, few_before_last}
use Rattle.trace.proofs.templates.+put_digits.Goals as goal

pub returns-then-number-lt10 : goal.returns-then-number-lt10
returns-then-number-lt10 t c = first_digit _ (omega arith) _ _ _ _ c.if-number-lt10.true (grind (arith, common_steps))

pub bounds-out-last : goal.bounds-out-last
bounds-out-last t c = omega (arith, c.put_digits-last.ensures.place, few_before_last c.args.number (omega arith))

pub returns : goal.returns
returns t c =
    let put = c.put_digits-last.ensures in
    last_digit _ (omega arith) _ _ _ _ _ _ c.if-number-lt10.false put (grind (arith, common_steps, put.place, few_before_last c.args.number (omega arith)))
