-- A draft over unused stores is the machine at its start.
use Rattle.std.proofs.Common.{◌≡◌, ℕ, zero, suc, List, [], replicate, None, sym, ap, ◌∙◌, subst, arith}
use Rattle.std.specs.List.{AllByRecursion}
use Rattle.std.proofs.lemmas.List.{length-replicate}
use Rattle.elements.specs.declared.events.Event.{Event}
use Rattle.elements.specs.declared.lines.LineEntry.{LineEntry}
use Rattle.elements.specs.declared.entries.Entry.{Entry}
use Rattle.elements.specs.Elements.{event_le, line_le}
use Rattle.stores.specs.Meaning.{State, Meaning, WellFormed, fresh}
use Rattle.stores.proofs.Unused.{fresh_state}
use Rattle.machine.specs.declared.networks.Network.{Network}
use Rattle.machine.specs.Network.{no_station, no_order, cleared}
use Rattle.machine.specs.Machine.{bounds_of, start_machine, with_events, with_lines}
use Rattle.outcomes.specs.Simulation.{machine_of}
use Rattle.simulations.specs.Conditions.{StationFit, OrderFit, NetworkFit, EventFit, LineFit, Fit, Each}
use Rattle.simulations.specs.Drafts.{draft, nothing}

all_replicate : {A : Type 0} (P : A → Type 0) (n : ℕ) (x : A) → P x → AllByRecursion P (replicate n x)
all_replicate P zero x p = tt
all_replicate P (suc n) x p = (p, all_replicate P n x p)

each_fresh : (T : Type 0) (P : Entry T → Type 0) → Each P (fresh {T = T})
each_fresh T P = record { queues = length-replicate {A = List (Entry T)} 32 []; entries = all_replicate (AllByRecursion P) 32 [] tt }

cleared_fit : NetworkFit cleared
cleared_fit = record {
  stations = length-replicate 32 no_station;
  orders = length-replicate 1024 no_order;
  each_station = all_replicate StationFit 32 no_station (record { benches = omega arith; busy = omega arith; takes = omega arith; next = tt; into = tt });
  each_order = all_replicate OrderFit 1024 no_order tt;
}

module _ (n : Network) (m : Meaning Event) (l : Meaning LineEntry) (is : n ≡ cleared) (fm : WellFormed event_le m) (fl : WellFormed line_le l) (um : m.state.next ≡ 0) (ul : l.state.next ≡ 0) where
  pub begins_fit : Fit (draft n m l None)
  begins_fit = record {
    network = subst NetworkFit (sym is) cleared_fit;
    instant = omega arith;
    end = tt;
    events = subst (Each EventFit) (sym (fresh_state m fm um)) (each_fresh Event EventFit);
    lines = subst (Each LineFit) (sym (fresh_state l fl ul)) (each_fresh LineEntry LineFit);
  }

  pub begins : machine_of nothing (draft n m l None) ≡ start_machine (bounds_of m.fixed) (bounds_of l.fixed) None
  begins =
      ap (λ (x : Network). machine_of nothing (draft x m l None)) is
      ∙ ap (λ (s : State Event). with_events (machine_of nothing (draft cleared m l None)) (record { state = s; bounds = bounds_of m.fixed; taken = 0 })) (fresh_state m fm um)
      ∙ ap (λ (s : State LineEntry). with_lines (with_events (machine_of nothing (draft cleared m l None)) (record { state = fresh; bounds = bounds_of m.fixed; taken = 0 })) (record { state = s; bounds = bounds_of l.fixed; taken = 0 })) (fresh_state l fl ul)
