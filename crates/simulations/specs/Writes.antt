-- The writes of a call: into the network, and into the places that are lent for records.
use Rattle.std.specs.Prelude.{ℕ, ◌+◌, List, Some, None, slice_set}
use Rattle.elements.specs.declared.events.Event.{Event}
use Rattle.elements.specs.declared.lines.LineEntry.{LineEntry}
use Rattle.stores.specs.declared.refusals.Refusal.{Refusal}
use Rattle.stores.specs.Meaning.{Meaning}
use Rattle.machine.specs.declared.networks.Network.{Network}
use Rattle.machine.specs.declared.networks.OrderState.TheVariants.{Waiting, InService, Done, Away, Withdrawn, Stranded}
use Rattle.machine.specs.declared.records.RecordKind.{RecordKind}
use Rattle.machine.specs.declared.records.Record.{Record}
use Rattle.machine.specs.declared.records.StoreName.{StoreName}
use Rattle.machine.specs.Network.{marked, occupied, freed, closed}
use Rattle.outcomes.specs.Simulation.{Control, Simulation}

abbrev pub simulation : Control → Meaning Event → Meaning LineEntry → List Record → Simulation
simulation d m l ps = record { control = d; events = m; lines = l; places = ps }

abbrev pub with_network : Control → Network → Control
with_network d n = record { instant = d.instant; end = d.end; network = n; refusal = d.refusal; fault = d.fault; used = d.used }

-- one place more is used
abbrev pub one_more : Control → Control
one_more d = record { instant = d.instant; end = d.end; network = d.network; refusal = d.refusal; fault = d.fault; used = d.used + 1 }

-- the places, with a record of this instant in the first unused one
abbrev pub noted : RecordKind → Control → List Record → List Record
noted x d ps = slice_set ps d.used (record { at = d.instant; kind = x })

-- the run ends with a fault
abbrev pub failed : Refusal → StoreName → Control → Control
failed f s d = record { instant = d.instant; end = d.end; network = d.network; refusal = None; fault = Some (record { refusal = f; store = s; instant = d.instant }); used = d.used }

-- The five ways to spend order i; all but the last are recorded.

abbrev pub started : ℕ → ℕ → ℕ → Control → Control
started i k n d = one_more (with_network d (occupied k (marked i (InService k n) d.network)))

abbrev pub queued : ℕ → ℕ → Control → Control
queued i n d = one_more (with_network d (marked i (Waiting n) d.network))

abbrev pub sent_away : ℕ → Control → Control
sent_away i d = one_more (with_network d (marked i Away d.network))

abbrev pub completed : ℕ → Control → Control
completed i d = one_more (with_network d (marked i Done d.network))

abbrev pub stranded : ℕ → Control → Control
stranded i d = with_network d (marked i Stranded d.network)

-- Other writes that are recorded.

-- a bench of station k is free
abbrev pub vacated : ℕ → Control → Control
vacated k d = with_network (one_more d) (freed k d.network)

-- order i is withdrawn from its line, or from its bench at station k
abbrev pub unqueued : ℕ → Control → Control
unqueued i d = one_more (with_network d (marked i Withdrawn d.network))

abbrev pub interrupted : ℕ → ℕ → Control → Control
interrupted i k d = one_more (with_network d (freed k (marked i Withdrawn d.network)))

-- station k is closed into station j
abbrev pub shut : ℕ → ℕ → Control → Control
shut k j d = one_more (with_network d (closed k j d.network))
