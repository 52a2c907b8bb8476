-- Forms of the worked example as they are written, computed on the definitions.
use Rattle.std.specs.Prelude.{◌≡◌, Some, None, codes}
use Rattle.machine.specs.declared.forms.Form.TheVariants.{Station, Order, Withdraw, Close, End}
use Rattle.form_texts.specs.Texts.{form_text}

pub record FormsWritten : Type 0 where
  pub station : form_text (Station 0 1 5 1 (Some 1)) ≡ codes "(station 0 (benches 1) (takes 5) (holds 1) (next 1))"
  pub last_station : form_text (Station 1 1 3 4 None) ≡ codes "(station 1 (benches 1) (takes 3) (holds 4) (last))"
  pub order : form_text (Order 0 0 5 50 0) ≡ codes "(order 0 (at 0) (urgency 5) (due 50) (start 0))"
  pub withdraw : form_text (Withdraw 1 2) ≡ codes "(withdraw 1 (at 2))"
  pub close : form_text (Close 0 4 1) ≡ codes "(close 0 (at 4) (into 1))"
  pub end : form_text (End 9) ≡ codes "(end 9)"
