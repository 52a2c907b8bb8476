use Rattle.std.proofs.Common.{◌∙◌}
use Rattle.form_texts.proofs.Telling.{close_told, close_untold}
use Rattle.script.proofs.forms.read_closing.Goals as goal

pub returns-in_err-station : goal.returns-in_err-station
returns-in_err-station c = c.from_residual.ensures ∙ close_untold c.args.line.now c.in_err-station.ensures

pub returns : goal.returns
returns c = close_told c.args.line.now _ c.in_ok-station.ensures
