use Rattle.std.proofs.Common.{◌≡◌, ◌+◌, ◌-◌, ◌<◌, ◌∙◌, ap, arith}
use Rattle.machine.specs.Network.{follow}
use Rattle.simulations.proofs.Entering.{follow_some}
use Rattle.workshop.proofs.serving.open_station.Goals as goal

pub follow-preserved : goal.follow-preserved
follow-preserved c =
    let n = c.args.net.now in
    let less : 32 - (c.follow._turn + 1) ≡ 32 - c.follow._turn - 1 = omega arith in
    let some : 0 < 32 - c.follow._turn = omega (arith, c.follow-test.true) in
    ap (follow (32 - (c.follow._turn + 1)) n) c.new-r.ensures ∙ ap (λ x. follow x n c.in-Some.j) less ∙ follow_some (32 - c.follow._turn) n c.follow.r.number c.in-Some.j some c.in-Some.is ∙ c.follow.invariant
