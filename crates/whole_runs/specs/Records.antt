-- Simulations as seen over the records of a whole run.
use Rattle.std.specs.Prelude.{ℕ, List}
use Rattle.machine.specs.declared.records.Record.{Record}
use Rattle.outcomes.specs.Simulation.{Control, Simulation}
use Rattle.simulations.specs.Writes.{simulation}

abbrev pub with_used : Control → ℕ → Control
with_used d u = record { instant = d.instant; end = d.end; network = d.network; refusal = d.refusal; fault = d.fault; used = u }

-- with all records of the run as its places, of which u are written
abbrev pub over : List Record → ℕ → Simulation → Simulation
over vs u s = simulation (with_used s.control u) s.events s.lines vs
