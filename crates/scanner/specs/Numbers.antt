-- Numbers as tokens of the lent bytes.
use Rattle.std.specs.Prelude.{ℕ, List, length, Some, None, Option}
use Rattle.std.specs.Borrow.{Bor}
use Rattle.scanner.specs.declared.numbers.NumberToken.{NumberToken}
use Rattle.scanner.specs.Tokens.{Cut}
use Rattle.scanner.specs.Numerals.{Found, Begins}

-- how many digits it has
abbrev pub digits : NumberToken → ℕ
digits x = length x.digits.bytes.now

-- the numeral at the front of the lent bytes, as a part of them; or none
abbrev pub Numbered : Bor (List ℕ) → Option NumberToken → Type 0
Numbered lent None = Begins lent.now None
Numbered lent (Some x) = Found lent.now x.value (digits x) × Cut lent (digits x) (digits x) x.digits
