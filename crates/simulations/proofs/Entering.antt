-- Following closings, entering a station, and starting the front of a line.
use Rattle.std.proofs.Common.{◌≡◌, ℕ, zero, suc, ◌+◌, ◌-◌, ◌<◌, ◌≤◌, Bool, true, false, cond, List, Some, None, Ok, Err, Option, Result, sym, refl, ap, ◌∙◌, arith}
use Rattle.std.proofs.lemmas.Bool.{lt-ltb, le-ltb, lt-leb}
use Rattle.elements.specs.declared.events.Event.{Event}
use Rattle.elements.specs.declared.lines.LineEntry.{LineEntry}
use Rattle.elements.specs.declared.entries.Entry.{Entry}
use Rattle.elements.specs.Elements.{line_le}
use Rattle.stores.specs.declared.refusals.Refusal.{Refusal}
use Rattle.stores.specs.declared.refusals.Refusal.TheVariants.{QueueNumber}
use Rattle.stores.specs.Meaning.{State, Meaning, list_of, live}
use Rattle.stores.specs.Calls.{take_after, front}
use Rattle.stores.specs.Promises.{Takes}
use Rattle.stores.proofs.Counting.{adds_up}
use Rattle.machine.specs.declared.networks.Network.{Network}
use Rattle.machine.specs.declared.records.Record.{Record}
use Rattle.machine.specs.declared.records.StoreName.{StoreName}
use Rattle.machine.specs.declared.records.StoreName.TheVariants.{Events, Orders}
use Rattle.machine.specs.Network.{station, open_station, has_free, follow, follow_by}
use Rattle.machine.specs.Machine.{Machine, bounds_of, with_cut, with_lines}
use Rattle.machine.specs.Step.{start, wait, enter, enter_at, enter_by, take_line, start_by, start_front}
use Rattle.outcomes.specs.Simulation.{Control, Simulation, Earlier, Takes as Taken, no_takes, and_takes, machine_of, cells}
use Rattle.outcomes.specs.Outcomes.{Counted, Outcome}
use Rattle.outcomes.proofs.Onwards.{outcome_onward, outcome_quiet, no_takes_more}
use Rattle.outcomes.proofs.Sequences.{written_not}
use Rattle.simulations.specs.Conditions.{IsStation}
use Rattle.simulations.specs.Writes.{simulation}
use Rattle.simulations.proofs.Writing.{written_kept, kept_counted}

pub follow_some : (left : ℕ) (n : Network) (r j : ℕ) → 0 < left → (station n r).into ≡ Some j → follow (left - 1) n j ≡ follow left n r
follow_some zero n r j lt e = absurd (omega arith)
follow_some (suc left) n r j lt e = let same : suc left - 1 ≡ left = omega arith in ap (λ x. follow x n j) same ∙ sym (ap (λ o. follow_by o (follow left n) r) e)

-- f does what g does
pub outcome_as : (f g : Machine → Machine) (a b : Simulation) → ((t : Earlier) (c : Option ℕ) → f (with_cut (machine_of t a) c) ≡ g (with_cut (machine_of t a) c)) → Outcome g a b → Outcome f a b
outcome_as f g a b e o = outcome_onward f g a a b (record {
  takes = no_takes;
  same = λ t c. e t c ∙ ap (λ u. g (with_cut (machine_of u a) c)) (no_takes_more t);
  cells = λ s. refl;
  counted = kept_counted a.control a.control a.events a.lines a.places a.places;
  written = written_not a;
}) o

module _ (i k r : ℕ) (a b : Simulation) (is : r ≡ open_station a.control.network k) where
  enters : (x : Bool) → has_free a.control.network r ≡ x → (t : Earlier) (c : Option ℕ) → enter i k (with_cut (machine_of t a) c) ≡ enter_by x i r (with_cut (machine_of t a) c)
  enters x e t c = ap (λ q. enter_at i q (with_cut (machine_of t a) c)) (sym is) ∙ ap (λ y. enter_by y i r (with_cut (machine_of t a) c)) e

  pub enter_start : (station a.control.network r).busy < (station a.control.network r).benches → Outcome (start i r) a b → Outcome (enter i k) a b
  enter_start lt = outcome_as (enter i k) (start i r) a b (enters true (lt-ltb _ _ lt))

  pub enter_wait : (station a.control.network r).benches ≤ (station a.control.network r).busy → Outcome (wait i r) a b → Outcome (enter i k) a b
  enter_wait le = outcome_as (enter i k) (wait i r) a b (enters false (le-ltb _ _ le))

-- a take of a queue that exists
module _ {T : Type 0} (le : T → T → Bool) (m n : Meaning T) (q : ℕ) (lt : q < 32) where
  pub took : (o : Option (Entry T)) → Takes le m q (Ok o) n → o ≡ front (list_of m.state q)
  took o h = let e : ◌≡◌ {A = Result (Option (Entry T)) Refusal} (Ok o) (Ok (front (list_of m.state q))) = h.answer ∙ ap (λ b. cond b (Err QueueNumber) (Ok (front (list_of m.state q)))) (lt-leb 32 q lt) in cc

  pub never : (f : Refusal) → Takes le m q (Err f) n → ⊥
  never f h = let e : ◌≡◌ {A = Result (Option (Entry T)) Refusal} (Err f) (Ok (front (list_of m.state q))) = h.answer ∙ ap (λ b. cond b (Err QueueNumber) (Ok (front (list_of m.state q)))) (lt-leb 32 q lt) in let y : ◌≡◌ {A = ℕ} 0 1 = cc in absurd (omega arith)

  -- one entry fewer
  pub took_one : (e : Entry T) → Takes le m q (Ok (Some e)) n → live n.state + n.held + 1 ≤ live m.state + m.held
  took_one e h = omega (arith, h.held, ap live h.after, (adds_up le).take m.state q e (sym (took (Some e) h)))

  -- none, where the queue is empty
  pub took_none : Takes le m q (Ok None) n → live n.state + n.held ≤ live m.state + m.held
  took_none h = omega (arith, h.held, ap live h.after)

abbrev pub one_line : Taken
one_line = record { events = 0; lines = 1 }

module _ (k : ℕ) (d : Control) (m : Meaning Event) (l l2 : Meaning LineEntry) (ps : List Record) (lt : IsStation k) where
  abbrev a : Simulation
  a = simulation d m l ps

  abbrev b : Simulation
  b = simulation d m l2 ps

  same_cells : (o : Option (Entry LineEntry)) → Takes line_le l k (Ok o) l2 → (s : StoreName) → cells b s ≡ cells a s
  same_cells o p Events = refl
  same_cells o p Orders = ap (λ f. f.cells) p.fixed

  counted_one : (e : Entry LineEntry) → Takes line_le l k (Ok (Some e)) l2 → Counted one_line a b
  counted_one e p Events = omega arith
  counted_one e p Orders = omega (arith, took_one line_le l l2 k lt e p, ap (λ s. s.next) p.after)

  counted_none : Takes line_le l k (Ok None) l2 → Counted no_takes a b
  counted_none p Events = omega arith
  counted_none p Orders = omega (arith, took_none line_le l l2 k lt p, ap (λ s. s.next) p.after)

  -- the lines after the take are the machine's
  lines_left : (o : Option (Entry LineEntry)) (x : Taken) → Takes line_le l k (Ok o) l2 → (t : Earlier) (c : Option ℕ) → with_cut (machine_of (and_takes t x) b) c ≡ with_lines (with_cut (machine_of (and_takes t x) a) c) (record { state = take_after l.state k (Ok (front (list_of l.state k))); bounds = bounds_of l.fixed; taken = t.takes.lines + x.lines })
  lines_left o x p t c =
      let q : l2.state ≡ take_after l.state k (Ok (front (list_of l.state k))) = p.after ∙ ap (λ z. take_after l.state k (Ok z)) (took line_le l l2 k lt o p) in
      ap (λ (s : State LineEntry). with_lines (with_cut (machine_of (and_takes t x) a) c) (record { state = s; bounds = bounds_of l2.fixed; taken = t.takes.lines + x.lines })) q
      ∙ ap (λ f. with_lines (with_cut (machine_of (and_takes t x) a) c) (record { state = take_after l.state k (Ok (front (list_of l.state k))); bounds = bounds_of f; taken = t.takes.lines + x.lines })) p.fixed

  one_taken : (e : Entry LineEntry) → Takes line_le l k (Ok (Some e)) l2 → (t : Earlier) (c : Option ℕ) → with_cut (machine_of (and_takes t one_line) b) c ≡ take_line k (with_cut (machine_of t a) c)
  one_taken e p t c =
      lines_left (Some e) one_line p t c
      ∙ ap (λ u. with_lines (with_cut (machine_of u a) c) (record { state = take_after l.state k (Ok (front (list_of l.state k))); bounds = bounds_of l.fixed; taken = t.takes.lines + 1 })) (λ j. record { records = t.records; takes = record { events = events_none t j; lines = t.takes.lines + 1 } })
    where
      events_none : (t : Earlier) → t.takes.events + 0 ≡ t.takes.events
      events_none t = omega arith

  pub front_starts : (e : Entry LineEntry) (z : Simulation) → Takes line_le l k (Ok (Some e)) l2 → Outcome (start e.element.order k) b z → Outcome (start_front k) a z
  front_starts e z p = outcome_onward (start_front k) (start e.element.order k) a b z (record {
    takes = one_line;
    same = λ t c. ap (λ o. start_by o k (with_cut (machine_of t a) c)) (sym (took line_le l l2 k lt (Some e) p)) ∙ ap (start e.element.order k) (sym (one_taken e p t c));
    cells = same_cells (Some e) p;
    counted = counted_one e p;
    written = written_kept a b refl refl;
  })

  pub front_none : Takes line_le l k (Ok None) l2 → Outcome (start_front k) a b
  front_none p = outcome_quiet (start_front k) a b (record {
    takes = no_takes;
    same = λ t c.
        ap (λ o. start_by o k (with_cut (machine_of t a) c)) (sym (took line_le l l2 k lt None p))
        ∙ ap (λ u. with_cut (machine_of u a) c) (no_takes_more t)
        ∙ sym (lines_left None no_takes p t c ∙ ap (λ o. with_lines (with_cut (machine_of (and_takes t no_takes) a) c) (record { state = take_after l.state k (Ok o); bounds = bounds_of l.fixed; taken = t.takes.lines + 0 })) (sym (took line_le l l2 k lt None p)));
    cells = same_cells None p;
    counted = counted_none p;
    written = written_kept a b refl refl;
  })
