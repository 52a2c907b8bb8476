-- The templates by which records and faults are written; each `#` is a gap for a number.
use Rattle.std.specs.Prelude.{ℕ, List, codes}
use Rattle.machine.specs.declared.records.RecordKind.{RecordKind}
use Rattle.machine.specs.declared.records.RecordKind.TheVariants.{Start, Wait, Away, Withdrawn, Missed, Finish, Done, Close, Kept}
use Rattle.machine.specs.declared.records.StoreName.{StoreName}
use Rattle.machine.specs.declared.records.StoreName.TheVariants.{Events, Orders}

abbrev pub record_template : RecordKind → List ℕ
record_template (Start i k) = codes "(at # (start # #))\n"
record_template (Wait i k) = codes "(at # (wait # #))\n"
record_template (Away i k) = codes "(at # (away # #))\n"
record_template (Withdrawn i) = codes "(at # (withdrawn #))\n"
record_template (Missed i) = codes "(at # (missed #))\n"
record_template (Finish i k) = codes "(at # (finish # #))\n"
record_template (Done i) = codes "(at # (done #))\n"
record_template (Close k j n) = codes "(at # (close # # #))\n"
record_template (Kept k j) = codes "(at # (kept # #))\n"

abbrev pub fault_template : StoreName → List ℕ
fault_template Events = codes "(fault # (cause #) (store events) (layer #))\n"
fault_template Orders = codes "(fault # (cause #) (store orders) (layer #))\n"
