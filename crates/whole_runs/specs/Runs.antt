-- A whole run over two real stores, told by the machine. F is what the machine makes of the script: its state at the end,
-- and the number of the line where reading stopped.
use Rattle.std.specs.Prelude.{◌≡◌, ℕ, ◌⊎◌, List, Some, Option}
use Rattle.machine.specs.declared.records.StoreName.{StoreName}
use Rattle.machine.specs.Machine.{Machine, with_cut}
use Rattle.machine.specs.Puts.{stopped_by}
use Rattle.outcomes.specs.Simulation.{Simulation, Takes, Earlier, machine_of, and_takes, cells, uses}
use Rattle.outcomes.specs.Outcomes.{Put, later, Rooms, Counted, Enough}

abbrev pub Run : Type 0
Run = Machine → Machine × ℕ

-- the machine at the end
abbrev pub ending : Run → Machine → Machine
ending F m = (F m).0

-- every put found a cell free, and all is the machine's
pub record RunAgreed (F : Run) (a b : Simulation) (l : ℕ) : Type 0 where
  pub puts : List Put
  pub takes : Takes
  pub rooms : (t : Earlier) → Rooms (ending F) (machine_of t a) (cells a) (Some 0) puts
  pub same : (t : Earlier) (c : Option ℕ) → F (with_cut (machine_of t a) (later puts c)) ≡ (with_cut (machine_of (and_takes t takes) b) c, l)
  pub counted : Counted takes a b

-- the put after those found no cell free, and all is the machine's stopped at it
pub record RunDeparted (F : Run) (a b : Simulation) (l : ℕ) : Type 0 where
  pub puts : List Put
  pub takes : Takes
  pub rooms : (t : Earlier) → Rooms (ending F) (machine_of t a) (cells a) (Some 0) puts
  pub same : (t : Earlier) → F (with_cut (machine_of t a) (later puts (Some 0))) ≡ (with_cut (machine_of (and_takes t takes) b) (Some 0), l)
  pub counted : Counted takes a b
  pub store : StoreName
  pub stop : stopped_by b.control.refusal b.control.fault ≡ Some store
  pub full : uses b store ≡ cells a store

-- a run from a ends in b at line l: it agrees with the machine, or departs from it at a put that finds no cell; with
-- enough cells it does not depart
pub record Runs (F : Run) (a b : Simulation) (l : ℕ) : Type 0 where
  pub ends : RunAgreed F a b l ⊎ RunDeparted F a b l
  pub cells : (s : StoreName) → cells b s ≡ cells a s
  pub enough : Enough (ending F) a → RunAgreed F a b l
