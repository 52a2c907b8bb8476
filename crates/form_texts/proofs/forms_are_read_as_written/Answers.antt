use Rattle.form_texts.proofs.Reading.{read_is_written, written_is_read}
use Rattle.form_texts.proofs.forms_are_read_as_written.Goals as goal

pub returns : goal.returns
returns c = record { accepted = read_is_written; complete = written_is_read }
