use Rattle.service_reports.proofs.Determined.{printed_once}
use Rattle.service_reports.proofs.report_is_determined.Goals as goal

pub returns : goal.returns
returns c = printed_once
