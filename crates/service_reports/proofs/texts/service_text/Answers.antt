use Rattle.service_reports.proofs.Printing.{one_taken}
use Rattle.service_reports.proofs.texts.service_text.Goals as goal

pub loop-entry-preserved : goal.loop-entry-preserved
loop-entry-preserved c =
    one_taken c.args.served.now c.loop-entry.entry-index (record { order = 0; urgency = 0; due = 0 }) _ _ c.loop-entry.invariant c.loop-entry-test.true c.in_ok-writeln.ensures.bytes
