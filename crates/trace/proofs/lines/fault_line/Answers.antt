use Rattle.std.proofs.Common.{◌≡◌, [], ◌∷◌}
use Rattle.trace.proofs.Spelling.{fault_numbers, fault_written}
use Rattle.trace.proofs.lines.fault_line.Goals as goal

pub returns : goal.returns
returns c =
    let q : c.args.fault.now.instant ∷ c.from-cause.result ∷ c.from-height.result ∷ [] ≡ fault_numbers c.args.fault.now = cc in
    fault_written _ _ _ c.args.fault.now _ _ c.fault_template.ensures q c.fill_template.ensures.fits c.fill_template.ensures.put
