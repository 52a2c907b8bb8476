-- The times of the records never fall, and every run ends.
use Rattle.std.specs.Prelude.{◌≡◌, ◌≤◌, List, [], ◌∷◌, None}
use Rattle.std.specs.List.{AllByRecursion}
use Rattle.machine.specs.declared.records.Record.{Record}
use Rattle.machine.specs.Machine.{Machine}
use Rattle.machine.specs.Step.{due_event, steps}
use Rattle.machine_laws.specs.Runs.{Always}

-- no record is later than one after it
abbrev pub Rising : List Record → Type 0
Rising [] = Unit {0}
Rising (r ∷ rs) = AllByRecursion (λ (x : Record). r.at ≤ x.at) rs × Rising rs

pub record InTime (m : Machine) : Type 0 where
  pub rising : Rising m.records
  -- and none is later than the instant
  pub past : AllByRecursion (λ (r : Record). r.at ≤ m.instant) m.records

abbrev pub TimesRise : Type 0
TimesRise = Always InTime

-- as many steps as the event store gives out stamps leave no event that is due
abbrev pub RunsEnd : Type 0
RunsEnd = Always (λ m. due_event (steps m.events.bounds.stamps m) ≡ None)
