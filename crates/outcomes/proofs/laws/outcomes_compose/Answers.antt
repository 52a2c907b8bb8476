use Rattle.outcomes.proofs.Sequences.{outcome_then, outcome_else}
use Rattle.outcomes.proofs.Onwards.{outcome_onward, outcome_quiet}
use Rattle.outcomes.proofs.Ends.{ends_halted, ends_stopped, tidy_as_is, tidy_strand}
use Rattle.outcomes.proofs.OnePut.{outcome_event_put, outcome_line_put}
use Rattle.outcomes.proofs.laws.outcomes_compose.Goals as goal

pub returns : goal.returns
returns c = record {
  ends_halted = ends_halted;
  ends_stopped = ends_stopped;
  tidy_as_is = tidy_as_is;
  tidy_strand = tidy_strand;
  then = outcome_then;
  otherwise = λ ends f g h test tidy a b d p z l. outcome_else ends f g h test tidy a b d z l p;
  onward = outcome_onward;
  quiet = outcome_quiet;
  event_put = outcome_event_put;
  line_put = outcome_line_put;
}
