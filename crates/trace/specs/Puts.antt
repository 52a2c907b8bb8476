-- Bytes that are put into a lent buffer.
use Rattle.std.specs.Prelude.{◌≡◌, ℕ, ◌+◌, List, ◌++◌, length, take, drop}

-- put at a place: they stand behind those before it, the next place is behind them, and all from there on stays
pub record Put (before : List ℕ) (at : ℕ) (bytes after : List ℕ) (next : ℕ) : Type 0 where
  pub place : next ≡ at + length bytes
  pub front : take next after ≡ take at before ++ bytes
  pub back : drop next after ≡ drop next before
