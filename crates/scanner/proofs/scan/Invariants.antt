use Rattle.std.proofs.Common.{◌≡◌, length, drop}
use Rattle.scanner.proofs.Scanning.{Sofar}
use Rattle.scanner.proofs.scan.Given as goal

abbrev pub invariant-loop-byte : goal.invariant-loop-byte
invariant-loop-byte g l = (length l.numbers ≡ g.row.N) × Sofar l.template l.line (drop l.byte-index l.template) l.rest l.numbers l.count
