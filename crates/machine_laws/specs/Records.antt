-- What a step adds to the records.
use Rattle.std.specs.Prelude.{◌≡◌, ℕ, ◌≤◌, List, ◌++◌, length}
use Rattle.machine.specs.declared.records.Record.{Record}
use Rattle.machine.specs.Machine.{Machine}
use Rattle.machine.specs.Step.{step}

-- v has the records of m, and at most n more
pub record Adds (n : ℕ) (m v : Machine) : Type 0 where
  pub more : List Record
  pub is : v.records ≡ m.records ++ more
  pub few : length more ≤ n

-- a step makes at most 9 records
abbrev pub FewRecords : Type 0
FewRecords = (m : Machine) → Adds 9 m (step m)
