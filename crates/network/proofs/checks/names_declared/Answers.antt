use Rattle.std.proofs.Common.{take, ◌∙◌}
use Rattle.network.proofs.NextStations.{each_next}
use Rattle.network.proofs.checks.names_declared.Goals as goal

pub returns-in-End : goal.returns-in-End
returns-in-End c =
    let n = c.args.net.now in
    rw c.in-End.is (c.all_next_declared.ensures ∙ each_next n (take n.declared.stations n.stations))
