-- Closings never form a ring.
use Rattle.std.specs.Prelude.{◌≡◌, ℕ, None}
use Rattle.machine.specs.declared.networks.Network.{Network}
use Rattle.machine.specs.Network.{station, open_station}
use Rattle.machine_laws.specs.Runs.{Always}

-- whatever station the closings are followed from, they lead to one that is open
abbrev pub LeadsToOpen : Network → Type 0
LeadsToOpen n = (k : ℕ) → (station n (open_station n k)).into ≡ None

abbrev pub OpenReached : Type 0
OpenReached = Always (λ m. LeadsToOpen m.network)
