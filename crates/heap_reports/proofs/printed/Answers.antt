use Rattle.std.proofs.Common.{IfOk, string_bytes, ap, subst}
use Rattle.service_reports.specs.Reports.{Printed}
use Rattle.heap_reports.proofs.printed.Goals as goal

pub returns : goal.returns
returns g c = subst (λ f. IfOk c.report_over.result (λ s. Printed f.cells f.stamps c.args.text.now (string_bytes s))) (ap (λ m. m.fixed) c.make-store.ensures.meaning) c.report_over.ensures
