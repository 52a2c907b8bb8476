use Rattle.std.proofs.Common.{◌∙◌}
use Rattle.form_texts.proofs.Telling.{order_told, order_untold}
use Rattle.script.proofs.forms.read_order.Goals as goal

pub returns-in_err-order : goal.returns-in_err-order
returns-in_err-order c = c.from_residual.ensures ∙ order_untold c.args.line.now c.in_err-order.ensures

pub returns : goal.returns
returns c = order_told c.args.line.now _ c.in_ok-order.ensures
