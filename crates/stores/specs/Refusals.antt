-- The number of each refusal, and the height that it carries.
use Rattle.std.specs.Prelude.{◌≡◌, ℕ, Ok, Err, Result}
use Rattle.stores.specs.declared.refusals.Refusal.{Refusal}
use Rattle.stores.specs.declared.refusals.Refusal.TheVariants.{QueueNumber, SameQueue, AtLimit, NoCell, NoStamp, NotQueued}
use Rattle.stores.specs.declared.refusals.Unfit.{Unfit}
use Rattle.stores.specs.declared.refusals.Unfit.TheVariants.{OutOfRange, NotFresh}

abbrev pub number_of : Refusal → ℕ
number_of QueueNumber = 9
number_of SameQueue = 10
number_of (AtLimit h) = 11
number_of NoCell = 12
number_of NoStamp = 13
number_of (NotQueued h) = 14

abbrev pub height_of : Refusal → ℕ
height_of QueueNumber = 0
height_of SameQueue = 0
height_of (AtLimit h) = h
height_of NoCell = 0
height_of NoStamp = 0
height_of (NotQueued h) = h

abbrev pub unfit_number : Unfit → ℕ
unfit_number OutOfRange = 1
unfit_number NotFresh = 2

-- a test before a making: it answers exactly where P holds, and else refuses with e
abbrev pub Tests : Result Unit Unfit → Unfit → Type 0 → Type 0
Tests (Ok u) e P = P
Tests (Err f) e P = (f ≡ e) × (P → ⊥)
