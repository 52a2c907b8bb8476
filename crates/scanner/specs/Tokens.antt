-- Tokens: parts of the bytes that were lent, in the very memory that was lent.
use Rattle.std.specs.Prelude.{◌≡◌, ℕ, ◌+◌, ◌-◌, ◌≤◌, List, ◌∷◌, length, take, drop, Some, None, Option, ◌≢◌}
use Rattle.std.specs.Borrow.{Bor}
use Rattle.scanner.specs.declared.tokens.Token.{Token}

-- n of the lent bytes, from byte i on: ptr tells the block of memory and the byte in it
pub record Part (lent : Bor (List ℕ)) (i n : ℕ) (part : Bor (List ℕ)) : Type 0 where
  pub within : i + n ≤ length lent.now
  pub is : part.now ≡ take n (drop i lent.now)
  pub block : part.ref_ptr.0 ≡ lent.ref_ptr.0
  pub place : part.ref_ptr.1 ≡ lent.ref_ptr.1 + i

-- the token is the first n of the lent bytes, and its rest begins at byte i of them
pub record Cut (lent : Bor (List ℕ)) (n i : ℕ) (t : Token) : Type 0 where
  pub bytes : Part lent 0 n t.bytes
  pub rest : Part lent i (length lent.now - i) t.rest

-- what is behind the byte b that the lent bytes begin with; none where they do not
abbrev pub Begun : Bor (List ℕ) → ℕ → Option (Bor (List ℕ)) → Type 0
Begun lent b None = (bs : List ℕ) → lent.now ≢ b ∷ bs
Begun lent b (Some part) = (lent.now ≡ b ∷ part.now) × Part lent 1 (length lent.now - 1) part
