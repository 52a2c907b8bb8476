-- What every call keeps holds after every list of calls.
use Rattle.std.proofs.Common.{Bool, true, false, List, [], ◌∷◌}
use Rattle.machine.specs.Machine.{Machine, branch, as_is}
use Rattle.machine.specs.Calls.{Call, call, is_stopped, calls}

pub calls_keep : (P : Machine → Type 0) → ((x : Call) (m : Machine) → P m → P (call x m)) → (xs : List Call) (m : Machine) → P m → P (calls xs m)
calls_keep P keep [] m h = h
calls_keep P keep (x ∷ xs) m h = go (is_stopped (call x m)) (calls_keep P keep xs (call x m) (keep x m h))
  where
    go : (b : Bool) → P (calls xs (call x m)) → P (branch b (calls xs) as_is (call x m))
    go false k = k
    go true k = keep x m h
