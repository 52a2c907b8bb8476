use Rattle.std.proofs.Common.{◌∙◌}
use Rattle.form_texts.proofs.Telling.{end_told, end_untold}
use Rattle.script.proofs.forms.read_end.Goals as goal

pub returns-in_err-at : goal.returns-in_err-at
returns-in_err-at c = c.from_residual.ensures ∙ end_untold c.args.line.now c.in_err-at.ensures

pub returns : goal.returns
returns c = end_told c.args.line.now _ c.in_ok-at.ensures
