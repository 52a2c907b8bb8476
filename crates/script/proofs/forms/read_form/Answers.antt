use Rattle.std.proofs.Common.{◌≡◌, sym, subst, rules}
use Rattle.std.specs.Option.{option_or}
use Rattle.machine.specs.Reading.{read_form, last_station_shape, order_shape, withdraw_shape, close_shape, end_shape}
use Rattle.form_texts.specs.Capping.{told_of, Tells}
use Rattle.form_texts.proofs.Reading.{tells_read}
use Rattle.form_texts.proofs.Telling.{told_as, form_told}
use Rattle.script.proofs.forms.read_form.Goals as goal

pub returns : goal.returns
returns c =
    let line = c.args.line.now in
    let two : c.or_else.result ≡ option_or c.read_station.result (told_as last_station_shape line) = search rules in
    let three : c.or_else-2.result ≡ option_or c.or_else.result (told_as order_shape line) = search rules in
    let four : c.or_else-3.result ≡ option_or c.or_else-2.result (told_as withdraw_shape line) = search rules in
    let five : c.or_else-4.result ≡ option_or c.or_else-3.result (told_as close_shape line) = search rules in
    let six : c.or_else-5.result ≡ option_or c.or_else-4.result (told_as end_shape line) = search rules in
    let value : c.or_else-5.result ≡ told_of (read_form line) = cc (form_told line) in
    record { value = value; told = subst (Tells line) (sym value) (tells_read line) }
