use Rattle.std.proofs.Common.{◌≡◌, ◌+◌, [], ◌∷◌}
use Rattle.trace.proofs.Spelling.{end_numbers, end_written}
use Rattle.trace.proofs.lines.end_line.Goals as goal

pub returns : goal.returns
returns c =
    let q : c.args.at ∷ c.from-3.result ∷ c.from-4.result ∷ c.from-5.result ∷ (c.from.result + c.from-2.result) ∷ [] ≡ end_numbers c.args.at c.args.totals.now = cc in
    end_written _ _ _ c.args.at c.args.totals.now _ q c.fill_template.ensures.fits c.fill_template.ensures.put
