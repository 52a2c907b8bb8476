use Rattle.std.proofs.Common.{◌≡◌, ◌-◌}
use Rattle.machine.specs.Network.{follow}
use Rattle.workshop.proofs.serving.open_station.Given as goal

abbrev pub invariant-follow : goal.invariant-follow
invariant-follow l = follow (32 - l._turn) l.net l.r.number ≡ follow 32 l.net l.initial.r.number
