-- Enough cells exclude a departure.
use Rattle.std.proofs.Common.{◌≡◌, ℕ, suc, ◌+◌, ◌⊎◌, List, [], ◌∷◌, Some, None, sym, refl, ap, ◌∙◌, subst, inl, inr, arith}
use Rattle.machine.specs.declared.records.StoreName.{StoreName}
use Rattle.machine.specs.declared.records.StoreName.TheVariants.{Events, Orders}
use Rattle.machine.specs.Machine.{Machine, with_cut}
use Rattle.machine.specs.Puts.{stopped}
use Rattle.outcomes.specs.Simulation.{Simulation, Takes, Earlier, no_takes, machine_of, and_takes, takes_in, issued, issued_in, taken_in}
use Rattle.outcomes.specs.Outcomes.{Put, up, later, Agreed, Departed, Leaves, Enough}
use Rattle.outcomes.specs.Composition.{EnoughSuffice, Alike}

later_some : (ps : List Put) → (k : ℕ) × (later ps (Some 0) ≡ Some k)
later_some [] = (0, refl)
later_some (p ∷ ps) = let h = later_some ps in (suc h.0, ap up h.1)

module _ (f : Machine → Machine) (a b : Simulation) where
  -- what the stopped machine has given out and taken
  issued_there : (t : Earlier) (s : StoreName) → issued_in (with_cut (machine_of t b) (Some 0)) s ≡ issued b s
  issued_there t Events = refl
  issued_there t Orders = refl

  taken_there : (t : Earlier) (x : Takes) (s : StoreName) → taken_in (with_cut (machine_of (and_takes t x) b) (Some 0)) s ≡ taken_in (machine_of t a) s + takes_in x s
  taken_there t x Events = refl
  taken_there t x Orders = refl

  pub none_left : Enough f a → Departed f a b → ⊥
  none_left enough d =
      let t : Earlier = record { records = []; takes = no_takes } in
      let k = later_some d.puts in
      let v : Machine = with_cut (machine_of (and_takes t d.takes) b) (Some 0) in
      let at : f (with_cut (machine_of t a) (Some k.0)) ≡ v = ap (λ o. f (with_cut (machine_of t a) o)) (sym k.1) ∙ d.same t in
      let leaves : Leaves a (machine_of t a) v d.store = subst (λ u. Leaves a (machine_of t a) u d.store) at (enough t k.0 d.store (ap stopped at ∙ d.stop)) in
      omega (arith, leaves, d.full, d.counted d.store, issued_there (and_takes t d.takes) d.store, taken_there t d.takes d.store)

  enough_by : Enough f a → Agreed f a b ⊎ Departed f a b → Agreed f a b
  enough_by enough (inl p) = p
  enough_by enough (inr d) = absurd (none_left enough d)

pub enough_suffice : EnoughSuffice
enough_suffice f a b o = record { outcome = o; enough = λ enough. enough_by f a b enough o.ends }

pub later_none : (ps : List Put) → later ps None ≡ None
later_none [] = refl
later_none (p ∷ ps) = ap up (later_none ps)

-- never stopped
agrees : (f : Machine → Machine) (a b : Simulation) (t : Earlier) (g : Agreed f a b) → f (machine_of t a) ≡ machine_of (and_takes t g.takes) b
agrees f a b t g = ap (λ o. f (with_cut (machine_of t a) o)) (sym (later_none g.puts)) ∙ g.same t None

pub alike : Alike
alike f a b c d t p q e = (p.takes, q.takes, sym (agrees f a b t p) ∙ ap f e ∙ agrees f c d t q)
