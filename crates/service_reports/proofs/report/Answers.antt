use Rattle.std.proofs.Common.{string_bytes}
use Rattle.service_reports.proofs.Reporting.{reported_read, printed_read, reported_unread, printed_unread}
use Rattle.service_reports.proofs.report.Goals as goal

pub returns-in-Ok : goal.returns-in-Ok
returns-in-Ok g c = record {
  sound = c.orders_text.ensures.sound;
  effect = reported_read string_bytes _ _ _ _ c.deref.ensures.value c.in-Ok.ensures _ _ c.orders_text.ensures.effect;
  unused = λ u. printed_read string_bytes _ _ _ _ c.deref.ensures.value c.in-Ok.ensures _ _ (c.orders_text.ensures.unused u);
}

pub returns-in-Err : goal.returns-in-Err
returns-in-Err g c = record {
  sound = c.requires;
  effect = reported_unread string_bytes _ _ _ _ c.in-Err.ensures c.unread_text.ensures;
  unused = λ _. printed_unread string_bytes _ _ _ _ _ c.in-Err.ensures c.unread_text.ensures;
}
