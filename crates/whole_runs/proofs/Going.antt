-- A run that is going on: the calls so far lead from a to b, and what is left to do from b by G is what F does from a.
use Rattle.std.proofs.Common.{◌≡◌, ℕ, ◌+◌, ◌⊎◌, List, [], ◌∷◌, ◌++◌, Some, Option, sym, refl, ap, ◌∙◌, subst, inl, inr, arith}
use Rattle.machine.specs.declared.records.StoreName.{StoreName}
use Rattle.machine.specs.declared.records.StoreName.TheVariants.{Events, Orders}
use Rattle.machine.specs.Machine.{Machine, with_cut}
use Rattle.machine.specs.Puts.{stopped, stopped_by}
use Rattle.outcomes.specs.Simulation.{Simulation, Takes, Earlier, no_takes, plus, machine_of, and_takes, cells, uses, issued, entries_in}
use Rattle.outcomes.specs.Outcomes.{Put, up, later, Rooms, Counted, Agreed, Departed, Enough}
use Rattle.outcomes.proofs.Sequences.{later_append, later_up, rooms_append, rooms_cells, takes_twice, counted_then}
use Rattle.outcomes.proofs.Onwards.{no_takes_more}
use Rattle.outcomes.proofs.Cells.{none_left}
use Rattle.whole_runs.specs.Runs.{Run, ending, RunAgreed, RunDeparted, Runs}

pub record Going (F G : Run) (a b : Simulation) : Type 0 where
  pub puts : List Put
  pub takes : Takes
  pub rooms : (t : Earlier) → Rooms (ending F) (machine_of t a) (cells a) (Some 0) puts
  pub same : (t : Earlier) (c : Option ℕ) → F (with_cut (machine_of t a) (later puts c)) ≡ G (with_cut (machine_of (and_takes t takes) b) c)
  pub counted : Counted takes a b
  pub cells : (s : StoreName) → cells b s ≡ cells a s

pub going_none : (F : Run) (a : Simulation) → Going F F a a
going_none F a = record {
  puts = [];
  takes = no_takes;
  rooms = λ t. tt;
  same = λ t c. ap (λ u. F (with_cut (machine_of u a) c)) (no_takes_more t);
  counted = counted_by;
  cells = λ s. refl;
}
  where
    counted_by : Counted no_takes a a
    counted_by Events = omega arith
    counted_by Orders = omega arith

module _ (F G : Run) (a b : Simulation) (p : Going F G a b) where
  -- what is left to do, said otherwise
  pub going_as : (H : Run) → ((t : Earlier) (c : Option ℕ) → G (with_cut (machine_of t b) c) ≡ H (with_cut (machine_of t b) c)) → Going F H a b
  going_as H e = record {
    puts = p.puts;
    takes = p.takes;
    rooms = p.rooms;
    same = λ t c. p.same t c ∙ e (and_takes t p.takes) c;
    counted = p.counted;
    cells = p.cells;
  }

  -- nothing is left to do
  pub going_ends : (l : ℕ) → ((t : Earlier) (c : Option ℕ) → G (with_cut (machine_of t b) c) ≡ (with_cut (machine_of t b) c, l)) → RunAgreed F a b l
  going_ends l e = record {
    puts = p.puts;
    takes = p.takes;
    rooms = p.rooms;
    same = λ t c. p.same t c ∙ e (and_takes t p.takes) c;
    counted = p.counted;
  }

  -- one call more: G does g first, and then what H does; where g is stopped, H leaves it
  module _ (g : Machine → Machine) (H : Run) (d : Simulation) (onward : (t : Earlier) (c : Option ℕ) → G (with_cut (machine_of t b) c) ≡ H (g (with_cut (machine_of t b) c))) (stays : (t : Earlier) (c : Option ℕ) (s : StoreName) → stopped (g (with_cut (machine_of t b) c)) ≡ Some s → (H (g (with_cut (machine_of t b) c))).0 ≡ g (with_cut (machine_of t b) c)) where
    rooms_on : (t : Earlier) (c : Option ℕ) (ys : List Put) → Rooms g (machine_of (and_takes t p.takes) b) (cells a) c ys → Rooms (ending F) (machine_of t a) (cells a) (later p.puts c) ys
    rooms_on t c [] r = tt
    rooms_on t c (y ∷ ys) r =
        let u = and_takes t p.takes in
        let e : ending F (with_cut (machine_of t a) (later p.puts c)) ≡ g (with_cut (machine_of u b) c) = ap (λ z. z.0) (p.same t c ∙ onward u c) ∙ stays u c y.store r.0.stops in (
          record { stops = ap stopped e ∙ r.0.stops; room = λ z. r.0.room (sym (ap (λ q. entries_in q y.store + y.held) e) ∙ z) },
          subst (λ o. Rooms (ending F) (machine_of t a) (cells a) o ys) (later_up p.puts c) (rooms_on t (up c) ys r.1),
        )

    joined : (ys : List Put) → ((t : Earlier) → Rooms g (machine_of t b) (cells b) (Some 0) ys) → (t : Earlier) → Rooms (ending F) (machine_of t a) (cells a) (Some 0) (p.puts ++ ys)
    joined ys r t =
        let u = and_takes t p.takes in
        rooms_append (ending F) (machine_of t a) (cells a) (Some 0) p.puts ys (p.rooms t) (rooms_on t (Some 0) ys (rooms_cells g (machine_of u b) (cells b) (cells a) (Some 0) ys p.cells (r u)))

    on : (ys : List Put) (x : Takes) (t : Earlier) (c e : Option ℕ) → g (with_cut (machine_of (and_takes t p.takes) b) (later ys c)) ≡ with_cut (machine_of (and_takes (and_takes t p.takes) x) d) e → F (with_cut (machine_of t a) (later (p.puts ++ ys) c)) ≡ H (with_cut (machine_of (and_takes t (plus p.takes x)) d) e)
    on ys x t c e q =
        ap (λ o. F (with_cut (machine_of t a) o)) (later_append p.puts ys c)
        ∙ p.same t (later ys c)
        ∙ onward (and_takes t p.takes) (later ys c)
        ∙ ap H q
        ∙ ap (λ u. H (with_cut (machine_of u d) e)) (takes_twice t p.takes x)

    pub going_on : ((s : StoreName) → cells d s ≡ cells b s) → Agreed g b d → Going F H a d
    going_on k q = record {
      puts = p.puts ++ q.puts;
      takes = plus p.takes q.takes;
      rooms = joined q.puts q.rooms;
      same = λ t c. on q.puts q.takes t c c (q.same (and_takes t p.takes) c);
      counted = counted_then p.takes q.takes a b d p.counted q.counted;
      cells = λ s. k s ∙ p.cells s;
    }

    pub going_departs : (l : ℕ) → Departed g b d → ((t : Earlier) → H (with_cut (machine_of t d) (Some 0)) ≡ (with_cut (machine_of t d) (Some 0), l)) → RunDeparted F a d l
    going_departs l q e = record {
      puts = p.puts ++ q.puts;
      takes = plus p.takes q.takes;
      rooms = joined q.puts q.rooms;
      same = λ t. on q.puts q.takes t (Some 0) (Some 0) (q.same (and_takes t p.takes)) ∙ e (and_takes t (plus p.takes q.takes));
      counted = counted_then p.takes q.takes a b d p.counted q.counted;
      store = q.store;
      stop = q.stop;
      full = q.full ∙ p.cells q.store;
    }

-- what was departed is departed from the machine at the end, too
departed_ending : (F : Run) (a b : Simulation) (l : ℕ) → RunDeparted F a b l → Departed (ending F) a b
departed_ending F a b l d = record { puts = d.puts; takes = d.takes; rooms = d.rooms; same = λ t. ap (λ z. z.0) (d.same t); counted = d.counted; store = d.store; stop = d.stop; full = d.full }

-- enough cells exclude a departure
module _ (F : Run) (a b : Simulation) (l : ℕ) where
  enough_by : Enough (ending F) a → RunAgreed F a b l ⊎ RunDeparted F a b l → RunAgreed F a b l
  enough_by enough (inl p) = p
  enough_by enough (inr d) = absurd (none_left (ending F) a b enough (departed_ending F a b l d))

  pub runs : ((s : StoreName) → cells b s ≡ cells a s) → RunAgreed F a b l ⊎ RunDeparted F a b l → Runs F a b l
  runs k e = record { ends = e; cells = k; enough = λ enough. enough_by enough e }

-- The outcome of a call, seen from simulations that have other records before it.
module _ (f : Machine → Machine) (a b A B : Simulation) (before : Earlier → Earlier)
    (begin : (t : Earlier) → machine_of t A ≡ machine_of (before t) a)
    (end : (t : Earlier) (x : Takes) → machine_of (and_takes t x) B ≡ machine_of (and_takes (before t) x) b)
    (cells_in : (s : StoreName) → cells A s ≡ cells a s)
    (uses-in : (s : StoreName) → uses A s ≡ uses a s) (issued_in : (s : StoreName) → issued A s ≡ issued a s)
    (uses-out : (s : StoreName) → uses B s ≡ uses b s) (issued-out : (s : StoreName) → issued B s ≡ issued b s)
    (told : (stopped_by B.control.refusal B.control.fault) ≡ stopped_by b.control.refusal b.control.fault) where
  rooms_moved : (t : Earlier) (c : Option ℕ) (ps : List Put) → Rooms f (machine_of (before t) a) (cells a) c ps → Rooms f (machine_of t A) (cells A) c ps
  rooms_moved t c ps r = subst (λ m. Rooms f m (cells A) c ps) (sym (begin t)) (rooms_cells f (machine_of (before t) a) (cells a) (cells A) c ps (λ s. sym (cells_in s)) r)

  counted_moved : (x : Takes) → Counted x a b → Counted x A B
  counted_moved x h s = omega (arith, h s, uses-in s, issued_in s, uses-out s, issued-out s)

  pub agreed_moved : Agreed f a b → Agreed f A B
  agreed_moved p = record {
    puts = p.puts;
    takes = p.takes;
    rooms = λ t. rooms_moved t (Some 0) p.puts (p.rooms (before t));
    same = λ t c. ap (λ m. f (with_cut m (later p.puts c))) (begin t) ∙ p.same (before t) c ∙ ap (λ m. with_cut m c) (sym (end t p.takes));
    counted = counted_moved p.takes p.counted;
  }

  pub departed_moved : Departed f a b → Departed f A B
  departed_moved p = record {
    puts = p.puts;
    takes = p.takes;
    rooms = λ t. rooms_moved t (Some 0) p.puts (p.rooms (before t));
    same = λ t. ap (λ m. f (with_cut m (later p.puts (Some 0)))) (begin t) ∙ p.same (before t) ∙ ap (λ m. with_cut m (Some 0)) (sym (end t p.takes));
    counted = counted_moved p.takes p.counted;
    store = p.store;
    stop = told ∙ p.stop;
    full = uses-out p.store ∙ p.full ∙ sym (cells_in p.store);
  }
