use Rattle.std.proofs.Common.{◌≡◌, take}
use Rattle.std.specs.List.{AllByRecursion}
use Rattle.scanner.specs.Numerals.{Digit, told}
use Rattle.scanner.proofs.numerals.read_digits.Given as goal

abbrev pub invariant-loop-count : goal.invariant-loop-count
invariant-loop-count l = record {
  digits : AllByRecursion Digit (take l.count l.s);
  number : l.number ≡ told (take l.count l.s);
}
