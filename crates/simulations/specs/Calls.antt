-- What a step and its parts promise.
use Rattle.std.specs.Prelude.{◌≡◌, ℕ, ◌+◌, ◌≤◌, length, Ok, Err, Option, Result}
use Rattle.elements.specs.declared.events.Event.{Event}
use Rattle.stores.specs.Meaning.{list_of}
use Rattle.stores.specs.Calls.{front}
use Rattle.machine.specs.declared.records.Progress.{Progress}
use Rattle.machine.specs.Lent.{step_places}
use Rattle.machine.specs.Machine.{Machine}
use Rattle.machine.specs.Step.{step, due_by, told_by}
use Rattle.outcomes.specs.Simulation.{Simulation}
use Rattle.outcomes.specs.Outcomes.{Outcome, Whole}
use Rattle.simulations.specs.Conditions.{Fit}

-- P of the answer, or Q of the refusal
abbrev pub ByAnswer : {A E : Type 0} → Result A E → (A → Type 0) → Type 0 → Type 0
ByAnswer (Ok x) P Q = P x
ByAnswer (Err e) P Q = Q

-- what was needed is kept, at most n records were written, and the outcome is that of the machine's f
pub record Call (f : Machine → Machine) (n : ℕ) (a b : Simulation) : Type 0 where
  pub fit : Fit b
  pub few : b.control.used ≤ a.control.used + n
  pub outcome : Outcome f a b

-- the event that the next step takes, if any
abbrev pub due_in : Simulation → Option Event
due_in a = due_by a.control.fault a.control.end (front (list_of a.events.state 0))

-- a step that was lent enough places, wrote n of them and told p
pub record Steps (a b : Simulation) (n : ℕ) (p : Progress) : Type 0 where
  pub enough : step_places ≤ length a.places
  pub fit : Fit b
  pub whole : Whole step a b
  pub written : n ≡ b.control.used
  pub few : n ≤ step_places
  pub told : p ≡ told_by b.control.fault (due_in a)
