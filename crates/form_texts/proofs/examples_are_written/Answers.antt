use Rattle.std.proofs.Common.{refl}
use Rattle.form_texts.specs.Texts.{numeral}
use Rattle.form_texts.proofs.examples_are_written.Goals as goal

pub returns : goal.returns
unfolding numeral
returns c = record { station = refl; last_station = refl; order = refl; withdraw = refl; close = refl; end = refl }
