use Rattle.std.proofs.Common.{IfOk, string_bytes, ap, subst}
use Rattle.elements.specs.Elements.{line_le}
use Rattle.dispatch.proofs.UnusedStores.{unused_bare}
use Rattle.service_reports.specs.Reports.{Printed}
use Rattle.waiting_line.proofs.printed.Goals as goal

pub returns : goal.returns
returns c =
    let Made-so = c.make-line.ensures.meaning in
    let unused = unused_bare line_le _ 4096 32768 c.make-line.ensures.formed Made-so in
    subst (λ f. IfOk c.report.result (λ s. Printed f.cells f.stamps c.args.text.now (string_bytes s))) (ap (λ m. m.fixed) Made-so) (c.report.ensures.unused unused)
