-- How a call over two real stores ends, told by the machine.
use Rattle.std.specs.Prelude.{◌≡◌, ℕ, suc, ◌+◌, ◌<◌, ◌≤◌, ◌⊎◌, List, [], ◌∷◌, length, drop, Some, None, Option}
use Rattle.machine.specs.declared.records.StoreName.{StoreName}
use Rattle.machine.specs.Machine.{Machine, with_cut}
use Rattle.machine.specs.Puts.{stopped, stopped_by}
use Rattle.outcomes.specs.Simulation.{Simulation, Takes, Earlier, machine_of, and_takes, takes_in, cells, uses, issued, entries_in, issued_in, taken_in}

-- a put that found no limit reached: the store, and how many cells it held
pub record Put : Type 0 where
  pub store : StoreName
  pub held : ℕ

-- stopped one put later
abbrev pub up : Option ℕ → Option ℕ
up None = None
up (Some c) = Some (suc c)

-- stopped as many puts later as the list has
abbrev pub later : List Put → Option ℕ → Option ℕ
later [] c = c
later (p ∷ ps) c = up (later ps c)

-- the machine that is stopped there stands at a put into that store, which has a cell free
pub record Free (f : Machine → Machine) (m : Machine) (cells : StoreName → ℕ) (c : Option ℕ) (p : Put) : Type 0 where
  pub stops : stopped (f (with_cut m c)) ≡ Some p.store
  pub room : entries_in (f (with_cut m c)) p.store + p.held ≡ cells p.store → ⊥

-- so at each of these puts, one after the other
abbrev pub Rooms : (Machine → Machine) → Machine → (StoreName → ℕ) → Option ℕ → List Put → Type 0
Rooms f m cells c [] = Unit {0}
Rooms f m cells c (p ∷ ps) = Free f m cells c p × Rooms f m cells (up c) ps

-- live + held + takes grow by no more than the stamps given out
abbrev pub Counted : Takes → Simulation → Simulation → Type 0
Counted x a b = (s : StoreName) → uses b s + takes_in x s + issued a s ≤ uses a s + issued b s

-- every put found a cell free, and all is the machine's
pub record Agreed (f : Machine → Machine) (a b : Simulation) : Type 0 where
  pub puts : List Put
  pub takes : Takes
  pub rooms : (t : Earlier) → Rooms f (machine_of t a) (cells a) (Some 0) puts
  pub same : (t : Earlier) (c : Option ℕ) → f (with_cut (machine_of t a) (later puts c)) ≡ with_cut (machine_of (and_takes t takes) b) c
  pub counted : Counted takes a b

-- the put after those found no cell free, and all is the machine's stopped at it
pub record Departed (f : Machine → Machine) (a b : Simulation) : Type 0 where
  pub puts : List Put
  pub takes : Takes
  pub rooms : (t : Earlier) → Rooms f (machine_of t a) (cells a) (Some 0) puts
  pub same : (t : Earlier) → f (with_cut (machine_of t a) (later puts (Some 0))) ≡ with_cut (machine_of (and_takes t takes) b) (Some 0)
  pub counted : Counted takes a b
  pub store : StoreName
  pub stop : stopped_by b.control.refusal b.control.fault ≡ Some store
  pub full : uses b store ≡ cells a store

-- records were written on from the used places, and the further places keep their content
pub record Written (a b : Simulation) : Type 0 where
  pub more : a.control.used ≤ b.control.used
  pub length : length b.places ≡ length a.places
  pub further : drop b.control.used b.places ≡ drop b.control.used a.places

-- a call does what the machine's f does, or departs from it at a put that finds no cell
pub record Outcome (f : Machine → Machine) (a b : Simulation) : Type 0 where
  pub ends : Agreed f a b ⊎ Departed f a b
  pub cells : (s : StoreName) → cells b s ≡ cells a s
  pub written : Written a b

-- at a put into that store: the puts so far and that one, less the takes, are no more than the cells
abbrev pub Leaves : Simulation → Machine → Machine → StoreName → Type 0
Leaves a m v s = uses a s + issued_in v s + taken_in m s < cells a s + taken_in v s + issued a s

-- so at every put that the machine makes in f
abbrev pub Enough : (Machine → Machine) → Simulation → Type 0
Enough f a = (t : Earlier) (c : ℕ) (s : StoreName) → stopped (f (with_cut (machine_of t a) (Some c))) ≡ Some s → Leaves a (machine_of t a) (f (with_cut (machine_of t a) (Some c))) s

-- with enough cells the call does not depart
pub record Whole (f : Machine → Machine) (a b : Simulation) : Type 0 where
  pub outcome : Outcome f a b
  pub enough : Enough f a → Agreed f a b
