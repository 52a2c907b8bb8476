use Rattle.form_texts.proofs.Ranges.{capped_form, capped_limit}
use Rattle.form_texts.proofs.capping_changes_nothing.Goals as goal

pub returns : goal.returns
returns c = record { done = capped_form; limits = capped_limit }
