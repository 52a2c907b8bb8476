use Rattle.std.proofs.Common.{refl}
use Rattle.std.specs.Fmt.{digits}
use Rattle.machine.proofs.examples.refusals_told.Goals as goal

pub returns : goal.returns
unfolding digits
returns c = record {
  long_script = refl;
  script_length = refl;
  long_line = refl;
  line_length = refl;
  needless_zero = refl;
  two_spaces = refl;
  more_behind = refl;
  no_ticks = refl;
  many_digits = refl;
  no_station = refl;
  station_number = refl;
  late_station = refl;
  order_number = refl;
  no_such_order = refl;
  after_the_end = refl;
  no_end = refl;
  nothing = refl;
  start_undeclared = refl;
  into_undeclared = refl;
  next_undeclared = refl;
  accepted = refl;
}
