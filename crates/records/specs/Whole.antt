-- What the cells of a whole store stand for, with its next stamp and its number of stamps, and when they are sound.
use Rattle.std.specs.Prelude.{ℕ, ◌≤◌, Bool, cond, List, length, nat_lt}
use Rattle.std.specs.List.{AllByRecursion}
use Rattle.stores.specs.Meaning.{Meaning, Sizes, bare_fixed}
use Rattle.records.specs.Cells.{Cell, Numbered, lists_of, stamped}

abbrev pub meant : {T : Type 0} → (T → T → Bool) → List (Cell T) → ℕ → ℕ → Meaning T
meant le cs next stamps = record {
  state = record { lists = lists_of le cs; next = next };
  fixed = bare_fixed (length cs) stamps;
  held = 0;
}

pub record Sound {T : Type 0} (cs : List (Cell T)) (next stamps : ℕ) : Type 0 where
  pub sizes : Sizes (length cs) stamps
  pub issued : next ≤ stamps
  pub numbered : AllByRecursion Numbered cs
  -- every stamp is below the next, and no two entries have the same
  pub marked : (k : ℕ) → stamped k cs ≤ cond (nat_lt k next) 1 0
