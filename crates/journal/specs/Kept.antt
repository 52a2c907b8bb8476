-- The changes that a log keeps: the last J, each in its place.
use Rattle.std.specs.Prelude.{◌≡◌, ℕ, ◌+◌, ◌-◌, ◌%◌, ◌<◌, ◌≤◌, min, cond, List, [], ◌∷◌, ◌++◌, length, take, drop, nat_lt, slice_set}
use Rattle.journal.specs.declared.logs.Log.{Log}
use Rattle.journal.specs.declared.logs.Change.{Change}

-- of the 1,024 places J, the number in `used`, are used; they fill up from 0
pub record WellKept (l : Log) : Type 0 where
  pub places : length l.places ≡ 1024
  pub some : 1 ≤ l.used
  pub most : l.used ≤ 1024
  pub within : l.at < l.used
  pub few : l.filled ≤ l.used
  pub first_round : l.filled < l.used → l.at ≡ l.filled

-- the changes kept, from the oldest: until all places are filled from place 0 on, then from the next place on and round
abbrev pub recent : Log → List Change
recent l = cond (nat_lt l.filled l.used) (take l.filled l.places) (drop l.at (take l.used l.places) ++ take l.at l.places)

-- the last n
abbrev pub newest : ℕ → List Change → List Change
newest n cs = drop (length cs - n) cs

-- the log after exactly the changes cs since it was made: change k goes to place k mod J, and the last J are kept
pub record History (l : Log) (cs : List Change) : Type 0 where
  pub next : l.at ≡ length cs % l.used
  pub kept : recent l ≡ newest l.used cs

-- the changes are written, each to the next place
abbrev pub noted : Log → List Change → Log
noted l [] = l
noted l (c ∷ cs) = noted (record { places = slice_set l.places l.at c; used = l.used; at = (l.at + 1) % l.used; filled = min (l.filled + 1) l.used; height = l.height }) cs

-- what becomes of the log l by a call that makes the changes cs
pub record Writes (l : Log) (cs : List Change) (w : Log) : Type 0 where
  pub places : w ≡ noted l cs
  pub kept : recent w ≡ newest l.used (recent l ++ cs)
  pub history : (before : List Change) → History l before → History w (before ++ cs)
