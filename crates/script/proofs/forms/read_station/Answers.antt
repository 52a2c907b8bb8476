use Rattle.std.proofs.Common.{◌∙◌}
use Rattle.form_texts.proofs.Telling.{station_told, station_untold}
use Rattle.script.proofs.forms.read_station.Goals as goal

pub returns-in-err-numbers : goal.returns-in-err-numbers
returns-in-err-numbers c = c.from-residual.ensures ∙ station_untold c.args.line.now c.in-err-numbers.ensures

pub returns : goal.returns
returns c = station_told c.args.line.now _ c.in-ok-numbers.ensures
