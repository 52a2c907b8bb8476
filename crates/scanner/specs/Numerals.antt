-- Numbers as they are written: digits of base ten, and no needless zero in front.
use Rattle.std.specs.Prelude.{◌≡◌, ℕ, ◌+◌, ◌-◌, ◌*◌, ◌<◌, ◌≤◌, min, List, [], ◌∷◌, ◌++◌, length, take, drop, Some, None, Option, ◌≢◌, slice_index_or}
use Rattle.std.specs.List.{AllByRecursion}

-- the bytes from 0 to 9
abbrev pub Digit : ℕ → Type 0
Digit c = (48 ≤ c) × (c ≤ 57)

pub record Numeral (ds : List ℕ) : Type 0 where
  pub digits : AllByRecursion Digit ds
  pub some : 0 < length ds
  pub first : slice_index_or ds 0 0 ≡ 48 → length ds ≡ 1

-- the number that the digits write, after those of n
abbrev pub read_on : ℕ → List ℕ → ℕ
read_on n [] = n
read_on n (c ∷ cs) = read_on (n * 10 + (c - 48)) cs

abbrev pub value : List ℕ → ℕ
value ds = read_on 0 ds

-- the value, where all that are too large for 32 bits are told as the largest
abbrev pub told : List ℕ → ℕ
told ds = min 4294967295 (value ds)

-- no digit comes next
abbrev pub Stop : List ℕ → Type 0
Stop [] = Unit {0}
Stop (c ∷ cs) = Digit c → ⊥

-- the first e bytes of s are a numeral, which no digit follows, and n is told of it
pub record Found (s : List ℕ) (n e : ℕ) : Type 0 where
  pub within : e ≤ length s
  pub numeral : Numeral (take e s)
  pub stop : Stop (drop e s)
  pub number : n ≡ told (take e s)

-- the numeral at the front of s, or none
abbrev pub Begins : List ℕ → Option (ℕ × ℕ) → Type 0
Begins s None = (ds rest : List ℕ) → Numeral ds → Stop rest → s ≢ ds ++ rest
Begins s (Some p) = Found s p.0 p.1
