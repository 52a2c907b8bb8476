-- A refusal that is not that of a limit.
use Rattle.std.proofs.Common.{◌≡◌, ℕ, false, refl}
use Rattle.stores.specs.declared.refusals.Refusal.{Refusal}
use Rattle.stores.specs.declared.refusals.Refusal.TheVariants.{QueueNumber, SameQueue, AtLimit, NoCell, NoStamp, NotQueued}
use Rattle.machine.specs.Step.{at_limit}

pub no_limit : (f : Refusal) → ((h : ℕ) → f ≡ AtLimit h → ⊥) → false ≡ at_limit f
no_limit QueueNumber n = refl
no_limit SameQueue n = refl
no_limit (AtLimit h) n = absurd (n h refl)
no_limit NoCell n = refl
no_limit NoStamp n = refl
no_limit (NotQueued h) n = refl
