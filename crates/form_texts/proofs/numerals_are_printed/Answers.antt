use Rattle.form_texts.proofs.Numbers.{numeral_printed}
use Rattle.form_texts.proofs.numerals_are_printed.Goals as goal

pub returns : goal.returns
returns c = numeral_printed
