use Rattle.std.proofs.Common.{◌≡◌, map}
use Rattle.machine.specs.Closing.{totals_of}
use Rattle.closing.proofs.totals.Given as goal

abbrev pub invariant-loop-order : goal.invariant-loop-order
invariant-loop-order l = l.totals ≡ totals_of (map (λ x. x.now) l.yielded)
