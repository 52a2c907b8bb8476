-- How many orders are counted in all.
use Rattle.std.proofs.Common.{◌≡◌, ℕ, ◌+◌, List, [], ◌∷◌, length, refl, arith}
use Rattle.std.proofs.lemmas.List.Sums.{sum_by-cons}
use Rattle.machine.specs.declared.networks.Order.{Order}
use Rattle.machine.specs.declared.networks.OrderState.{OrderState}
use Rattle.machine.specs.declared.networks.OrderState.TheVariants.{NotYet, Waiting, InService, Done, Away, Withdrawn, Stranded}
use Rattle.machine.specs.declared.records.Totals.{Totals}
use Rattle.machine.specs.Closing.{one_in, count_in, totals_of}
use Rattle.closing.specs.Counting.{whole}

-- every order is counted once
one_state : (s : OrderState) → whole (one_in s) ≡ 1
one_state NotYet = refl
one_state (Waiting s) = refl
one_state (InService k s) = refl
one_state Done = refl
one_state Away = refl
one_state Withdrawn = refl
one_state Stranded = refl

pub whole_is : (os : List Order) → whole (totals_of os) ≡ length os
whole_is [] = refl
whole_is (o ∷ os) =
    let cons : (which : Totals → ℕ) → count_in which (o ∷ os) ≡ which (one_in o.state) + count_in which os = λ which. sum_by-cons (λ (x : Order). which (one_in x.state)) o os in
    omega (arith, whole_is os, one_state o.state, cons (λ t. t.pending), cons (λ t. t.waiting), cons (λ t. t.serving), cons (λ t. t.done), cons (λ t. t.away), cons (λ t. t.withdrawn), cons (λ t. t.stranded))
