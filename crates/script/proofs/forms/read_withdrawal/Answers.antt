use Rattle.std.proofs.Common.{◌∙◌}
use Rattle.form_texts.proofs.Telling.{withdraw_told, withdraw_untold}
use Rattle.script.proofs.forms.read_withdrawal.Goals as goal

pub returns-in_err-order : goal.returns-in_err-order
returns-in_err-order c = c.from_residual.ensures ∙ withdraw_untold c.args.line.now c.in_err-order.ensures

pub returns : goal.returns
returns c = withdraw_told c.args.line.now _ c.in_ok-order.ensures
