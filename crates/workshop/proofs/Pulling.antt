-- What a withdrawal found tells of the order's state.
use Rattle.std.proofs.Common.{◌≡◌, ℕ, sym, refl, ap, ◌∙◌, arith}
use lib.Seq.{set-get_or}
use Rattle.elements.specs.declared.events.EventKind.{EventKind}
use Rattle.elements.specs.declared.events.EventKind.TheVariants.{Withdraw}
use Rattle.machine.specs.declared.networks.Network.{Network}
use Rattle.machine.specs.declared.networks.OrderState.{OrderState}
use Rattle.machine.specs.declared.networks.OrderState.TheVariants.{NotYet, Waiting, InService, Done, Away, Withdrawn, Stranded}
use Rattle.machine.specs.declared.records.RecordKind.TheVariants.{Missed as is-missed}
use Rattle.machine.specs.Network.{no_order, order, marked}
use Rattle.machine.specs.Machine.{Machine, tell}
use Rattle.machine.specs.Step.{withdraw_by}
use Rattle.simulations.specs.Writes.{with_network}
use Rattle.workshop.specs.declared.withdrawals.Withdrawal.{Withdrawal}
use Rattle.workshop.specs.declared.withdrawals.Withdrawal.TheVariants.{FromLine, FromBench, Missed}
use Rattle.workshop.specs.declared.Workshop.{Workshop}
use Rattle.workshop.specs.Workshop.{control, left}
use Rattle.workshop.specs.Withdrawals.{withdrawal, state_after}

never : {A : Type 0} → ◌≡◌ {A = ℕ} 0 1 → A
never z = absurd (omega (arith, z))

module _ (i : ℕ) where
  pub from_line : (st : OrderState) (s : ℕ) → withdrawal st (Withdraw i) ≡ FromLine s → st ≡ Waiting s
  from_line (Waiting x) s e = let z : x ≡ s = cc in ap Waiting z
  from_line (InService k x) s e = never cc
  from_line NotYet s e = never cc
  from_line Done s e = never cc
  from_line Away s e = never cc
  from_line Withdrawn s e = never cc
  from_line Stranded s e = never cc

  pub from_bench : (st : OrderState) (k s : ℕ) → withdrawal st (Withdraw i) ≡ FromBench k s → st ≡ InService k s
  from_bench (Waiting x) k s e = never cc
  from_bench (InService j x) k s e = let y : j ≡ k = cc in let z : x ≡ s = cc in ap (λ q. InService q x) y ∙ ap (InService k) z
  from_bench NotYet k s e = never cc
  from_bench Done k s e = never cc
  from_bench Away k s e = never cc
  from_bench Withdrawn k s e = never cc
  from_bench Stranded k s e = never cc

  -- missed: nothing changes
  pub record IsMissed (st : OrderState) : Type 0 where
    pub same : state_after st (Withdraw i) ≡ st
    pub told : (m : Machine) → withdraw_by st i m ≡ tell (is-missed i) m

  pub missed : (st : OrderState) → withdrawal st (Withdraw i) ≡ Missed → IsMissed st
  missed (Waiting x) e = never cc
  missed (InService j x) e = never cc
  missed NotYet e = record { same = refl; told = λ m. refl }
  missed Done e = record { same = refl; told = λ m. refl }
  missed Away e = record { same = refl; told = λ m. refl }
  missed Withdrawn e = record { same = refl; told = λ m. refl }
  missed Stranded e = record { same = refl; told = λ m. refl }

-- an order that keeps its state
pub unmarked : (i : ℕ) (st : OrderState) (n : Network) → st ≡ (order n i).state → marked i st n ≡ n
unmarked i st n e = ap (λ x. marked i x n) e ∙ ap (λ (os : _). record { stations = n.stations; orders = os; declared = n.declared }) (set-get_or n.orders i no_order)

-- From the values that a call of pull_out leaves: r is its answer, w and v the workshop before and after.
module _ {E O : Type 0} (i : ℕ) (kind : EventKind) (w v : Workshop E O) (r : Withdrawal) (k-is : kind ≡ Withdraw i) (answer : r ≡ withdrawal (order w.net.now i).state kind) (after : v ≡ left w (with_network (control w) (marked i (state_after (order w.net.now i).state kind) w.net.now)) w.places.now) where
  found : (x : Withdrawal) → r ≡ x → withdrawal (order w.net.now i).state (Withdraw i) ≡ x
  found x e = sym (answer ∙ ap (withdrawal (order w.net.now i).state) k-is) ∙ e

  pulled : (st : OrderState) → (order w.net.now i).state ≡ st → v ≡ left w (with_network (control w) (marked i (state_after st (Withdraw i)) w.net.now)) w.places.now
  pulled st e = after ∙ ap (λ k. left w (with_network (control w) (marked i (state_after (order w.net.now i).state k) w.net.now)) w.places.now) k-is ∙ ap (λ s. left w (with_network (control w) (marked i (state_after s (Withdraw i)) w.net.now)) w.places.now) e

  pub waited : (s : ℕ) → r ≡ FromLine s → (order w.net.now i).state ≡ Waiting s
  waited s e = from_line i _ s (found (FromLine s) e)

  pub served : (k s : ℕ) → r ≡ FromBench k s → (order w.net.now i).state ≡ InService k s
  served k s e = from_bench i _ k s (found (FromBench k s) e)

  pub was_missed : r ≡ Missed → IsMissed i (order w.net.now i).state
  was_missed e = missed i _ (found Missed e)

  pub waited_left : (s : ℕ) → r ≡ FromLine s → v ≡ left w (with_network (control w) (marked i Withdrawn w.net.now)) w.places.now
  waited_left s e = pulled (Waiting s) (waited s e)

  pub served_left : (k s : ℕ) → r ≡ FromBench k s → v ≡ left w (with_network (control w) (marked i Withdrawn w.net.now)) w.places.now
  served_left k s e = pulled (InService k s) (served k s e)

  pub missed_left : r ≡ Missed → v ≡ w
  missed_left e = pulled (order w.net.now i).state refl ∙ ap (λ n. left w (with_network (control w) n) w.places.now) (unmarked i _ w.net.now (was_missed e).same)
