-- The machine that is stopped at a put, beside the one that never is.
use Rattle.std.specs.Prelude.{◌≡◌, ℕ, ◌⊎◌, List, ◌++◌, Some, None}
use Rattle.machine.specs.declared.records.Record.{Record}
use Rattle.machine.specs.declared.records.StoreName.{StoreName}
use Rattle.machine.specs.Machine.{Machine, with_cut}
use Rattle.machine.specs.Puts.{stopped}
use Rattle.machine.specs.Calls.{Call, call, calls}

-- v's records are a beginning of u's
pub record Begins (v u : Machine) : Type 0 where
  pub more : List Record
  pub is : u.records ≡ v.records ++ more

-- after c puts more the machine would be stopped, but f makes no more of them: all is as if it were never stopped
pub record Unreached (f : Machine → Machine) (m : Machine) (c : ℕ) : Type 0 where
  pub left : ℕ
  pub same : f (with_cut m (Some c)) ≡ with_cut (f (with_cut m None)) (Some left)

-- the put came: what was recorded before it is a beginning of what the unstopped machine records
pub record Reached (f : Machine → Machine) (m : Machine) (c : ℕ) : Type 0 where
  pub store : StoreName
  pub stop : stopped (f (with_cut m (Some c))) ≡ Some store
  pub records : Begins (f (with_cut m (Some c))) (f (with_cut m None))

-- in one call the instant and the end are the unstopped machine's, too
pub record ReachedNow (f : Machine → Machine) (m : Machine) (c : ℕ) : Type 0 where
  pub reached : Reached f m c
  pub instant : (f (with_cut m (Some c))).instant ≡ (f (with_cut m None)).instant
  pub end : (f (with_cut m (Some c))).end ≡ (f (with_cut m None)).end

pub record StoppedAlike : Type 0 where
  pub one : (x : Call) (m : Machine) (c : ℕ) → Unreached (call x) m c ⊎ ReachedNow (call x) m c
  pub many : (xs : List Call) (m : Machine) (c : ℕ) → Unreached (calls xs) m c ⊎ Reached (calls xs) m c
