use Rattle.std.proofs.Common.{◌≡◌, [], ◌∷◌}
use Rattle.trace.proofs.Spelling.{record_numbers, with_station, of_order, record_written}
use Rattle.trace.proofs.lines.record_line.Goals as goal

pub returns-in-Close : goal.returns-in-Close
returns-in-Close c =
    let r = c.args.record.now in
    let q : r.at ∷ c.from.result ∷ c.from-in-Close.result ∷ c.from-in-Close-2.result ∷ [] ≡ record_numbers r.at r.kind = rw c.in-Close.is (cc) in
    record_written _ _ _ r _ _ c.record_template-template.ensures q c.fill_template.ensures.fits c.fill_template.ensures.put

pub returns-in-Kept : goal.returns-in-Kept
returns-in-Kept c =
    let r = c.args.record.now in
    let q : r.at ∷ c.from-in-Kept.result ∷ c.from-in-Kept-2.result ∷ [] ≡ record_numbers r.at r.kind = rw c.in-Kept.is (cc) in
    record_written _ _ _ r _ _ c.record_template-template.ensures q c.fill_template-in-Kept.ensures.fits c.fill_template-in-Kept.ensures.put

pub returns-in-Withdrawn : goal.returns-in-Withdrawn
returns-in-Withdrawn c =
    let r = c.args.record.now in
    let q : r.at ∷ c.from-in-Withdrawn.result ∷ [] ≡ record_numbers r.at r.kind = cc (of_order r.at _ _ c.in-Withdrawn.is) in
    record_written _ _ _ r _ _ c.record_template-template.ensures q c.fill_template-in-Withdrawn.ensures.fits c.fill_template-in-Withdrawn.ensures.put

pub returns-in-Start : goal.returns-in-Start
returns-in-Start c =
    let r = c.args.record.now in
    let q : r.at ∷ c.from-in-Start.result ∷ c.from-in-Start-2.result ∷ [] ≡ record_numbers r.at r.kind = cc (with_station r.at _ _ _ c.in-Start.is) in
    record_written _ _ _ r _ _ c.record_template-template.ensures q c.fill_template-in-Start.ensures.fits c.fill_template-in-Start.ensures.put
