-- A call that is one put, and what follows it.
use Rattle.std.proofs.Common.{◌≡◌, ℕ, ◌+◌, Bool, ◌⊎◌, [], ◌∷◌, length, Some, Err, Option, Result, sym, refl, ap, ◌∙◌, inl, inr, arith}
use Rattle.elements.specs.declared.events.Event.{Event}
use Rattle.elements.specs.declared.lines.LineEntry.{LineEntry}
use Rattle.elements.specs.Elements.{event_le, line_le}
use Rattle.stores.specs.declared.refusals.Refusal.{Refusal}
use Rattle.stores.specs.declared.refusals.Refusal.TheVariants.{NoCell}
use Rattle.stores.specs.Meaning.{State, Meaning, live}
use Rattle.stores.specs.Promises.{Puts}
use Rattle.machine.specs.declared.records.StoreName.{StoreName}
use Rattle.machine.specs.declared.records.StoreName.TheVariants.{Events, Orders}
use Rattle.machine.specs.Machine.{Machine, with_cut, with_events, with_lines, bounds_of}
use Rattle.machine.specs.Puts.{try, Continuation, event_tried, put_event, line_tried, put_line, stopped}
use Rattle.outcomes.specs.Simulation.{Simulation, Earlier, no_takes, machine_of, store_of, cells, uses, entries_in}
use Rattle.outcomes.specs.Outcomes.{up, Counted, Agreed, Departed, Written, Outcome}
use Rattle.outcomes.specs.Composition.{EventPut, LinePut}
use Rattle.outcomes.proofs.Onwards.{no_takes_more}
use Rattle.outcomes.proofs.Tries.{Counts, Passed, Barred, Full, put_ways}

-- f is a put of e into queue q of the store with that name, followed by `then`, and led from a to b
pub record PutParts {T : Type 0} (le : T → T → Bool) (name : StoreName) (f : Machine → Machine) (a b : Simulation) (m : Meaning T) (q : ℕ) (e : T) (r : Result ℕ Refusal) (n : Meaning T) (then : Result ℕ Refusal → State T → Earlier → Machine) : Type 0 where
  pub tries : (t : Earlier) (c d : Option ℕ) (s : State T) (o : Result ℕ Refusal) → try le c (store_of m 0) q e ≡ record { answer = o; state = s; cut = d } → f (with_cut (machine_of t a) c) ≡ with_cut (then o s t) d
  pub same : (t : Earlier) → machine_of t b ≡ then r n.state t
  pub stop : (s : State T) (t : Earlier) → stopped (then (Err NoCell) s t) ≡ Some name
  pub entries : (s : State T) (t : Earlier) → entries_in (then (Err NoCell) s t) name ≡ live s
  pub counted : Counts le m q e r n → Counted no_takes a b
  pub uses_after : uses b name ≡ live n.state + m.held
  pub cells : cells a name ≡ m.fixed.cells

same_entries : (s : StoreName) (v : Machine) → entries_in (with_cut v (Some 0)) s ≡ entries_in v s
same_entries Events v = refl
same_entries Orders v = refl

module _ {T : Type 0} (le : T → T → Bool) (name : StoreName) (f : Machine → Machine) (a b : Simulation) (m : Meaning T) (q : ℕ) (e : T) (r : Result ℕ Refusal) (n : Meaning T) (then : Result ℕ Refusal → State T → Earlier → Machine) (h : PutParts le name f a b m q e r n then) where
  ends_at : (t : Earlier) (c d : Option ℕ) → try le c (store_of m 0) q e ≡ record { answer = r; state = n.state; cut = d } → f (with_cut (machine_of t a) c) ≡ with_cut (machine_of (record { records = t.records; takes = record { events = t.takes.events + 0; lines = t.takes.lines + 0 } }) b) d
  ends_at t c d p = h.tries t c d n.state r p ∙ ap (λ v. with_cut v d) (sym (h.same t)) ∙ ap (λ u. with_cut (machine_of u b) d) (no_takes_more t)

  kept_cut : (v : Machine) → entries_in (with_cut v (Some 0)) name + m.held ≡ entries_in v name + m.held
  kept_cut v = ap (λ k. k + m.held) (same_entries name v)

  ways : Passed le m q e r n ⊎ Barred le m q e r n ⊎ Full le m q e r n → Agreed f a b ⊎ Departed f a b
  ways (inl p) = inl (record {
    puts = record { store = name; held = m.held } ∷ [];
    takes = no_takes;
    rooms = λ t.
        let s = h.tries t (Some 0) (Some 0) m.state (Err NoCell) p.stops in (
          record {
            stops = ap stopped s ∙ h.stop m.state t;
            room = λ z. p.free (sym (ap (λ v. entries_in v name + m.held) s ∙ kept_cut (then (Err NoCell) m.state t) ∙ ap (λ k. k + m.held) (h.entries m.state t)) ∙ z ∙ h.cells);
          },
          tt,
        );
    same = λ t c. ends_at t (up c) c (p.same c);
    counted = h.counted p.counts;
  })
  ways (inr (inl p)) = inl (record {
    puts = [];
    takes = no_takes;
    rooms = λ t. tt;
    same = λ t c. ends_at t c c (p.same c);
    counted = h.counted p.counts;
  })
  ways (inr (inr p)) = inr (record {
    puts = [];
    takes = no_takes;
    rooms = λ t. tt;
    same = λ t. ends_at t (Some 0) (Some 0) p.same;
    counted = h.counted p.counts;
    store = name;
    stop =
        let t : Earlier = record { records = []; takes = no_takes } in
        ap stopped (h.same t ∙ ap (λ o. then o n.state t) p.is) ∙ h.stop n.state t;
    full = h.uses_after ∙ ap (λ s. live s + m.held) p.stays ∙ p.full ∙ sym h.cells;
  })

  pub outcome_put : ((s : StoreName) → cells b s ≡ cells a s) → Written a b → length m.state.lists ≡ 32 → Puts le m q e r n → Outcome f a b
  outcome_put k w i p = record { ends = ways (put_ways le m q e r n i p); cells = k; written = w }

module _ (then : Continuation) (x : Machine → Event) (a b : Simulation) (e : Event) (r : Result ℕ Refusal) (h : EventPut then x a b e r) where
  abbrev after_event : Result ℕ Refusal → State Event → Earlier → Machine
  after_event o s t = then o (with_events (machine_of t a) (record { state = s; bounds = bounds_of a.events.fixed; taken = t.takes.events }))

  event_parts : PutParts event_le Events (put_event x then) a b a.events 0 e r b.events after_event
  event_parts = record {
    tries = λ t c d s o p.
        ap (λ y. event_tried then (with_cut (machine_of t a) c) (try event_le c (store_of a.events 0) 0 y)) (h.blind (machine_of t a) c ∙ h.element t)
        ∙ ap (event_tried then (with_cut (machine_of t a) c)) p
        ∙ h.follows.cut o (with_events (machine_of t a) (record { state = s; bounds = bounds_of a.events.fixed; taken = t.takes.events })) d;
    same = λ t. h.same t ∙ ap (λ f. then r (with_events (machine_of t a) (record { state = b.events.state; bounds = bounds_of f; taken = t.takes.events }))) h.puts.fixed;
    stop = λ s t. h.follows.stop _;
    entries = λ s t. h.follows.entries _ Events;
    counted = counted_by;
    uses_after = ap (λ n. live b.events.state + n) h.puts.held;
    cells = refl;
  }
    where
      counted_by : Counts event_le a.events 0 e r b.events → Counted no_takes a b
      counted_by p Events = omega (arith, p, h.puts.held)
      counted_by p Orders = rw h.lines (omega arith)

  pub outcome_event_put : Outcome (put_event x then) a b
  outcome_event_put = outcome_put event_le Events (put_event x then) a b a.events 0 e r b.events after_event event_parts cells_by h.written h.inside h.puts
    where
      cells_by : (s : StoreName) → cells b s ≡ cells a s
      cells_by Events = ap (λ f. f.cells) h.puts.fixed
      cells_by Orders = ap (λ l. l.fixed.cells) h.lines

module _ (then : Continuation) (k : ℕ) (x : Machine → LineEntry) (a b : Simulation) (e : LineEntry) (r : Result ℕ Refusal) (h : LinePut then k x a b e r) where
  abbrev after_line : Result ℕ Refusal → State LineEntry → Earlier → Machine
  after_line o s t = then o (with_lines (machine_of t a) (record { state = s; bounds = bounds_of a.lines.fixed; taken = t.takes.lines }))

  line_parts : PutParts line_le Orders (put_line k x then) a b a.lines k e r b.lines after_line
  line_parts = record {
    tries = λ t c d s o p.
        ap (λ y. line_tried then (with_cut (machine_of t a) c) (try line_le c (store_of a.lines 0) k y)) (h.blind (machine_of t a) c ∙ h.element t)
        ∙ ap (line_tried then (with_cut (machine_of t a) c)) p
        ∙ h.follows.cut o (with_lines (machine_of t a) (record { state = s; bounds = bounds_of a.lines.fixed; taken = t.takes.lines })) d;
    same = λ t. h.same t ∙ ap (λ f. then r (with_lines (machine_of t a) (record { state = b.lines.state; bounds = bounds_of f; taken = t.takes.lines }))) h.puts.fixed;
    stop = λ s t. h.follows.stop _;
    entries = λ s t. h.follows.entries _ Orders;
    counted = counted_by;
    uses_after = ap (λ n. live b.lines.state + n) h.puts.held;
    cells = refl;
  }
    where
      counted_by : Counts line_le a.lines k e r b.lines → Counted no_takes a b
      counted_by p Events = rw h.events (omega arith)
      counted_by p Orders = omega (arith, p, h.puts.held)

  pub outcome_line_put : Outcome (put_line k x then) a b
  outcome_line_put = outcome_put line_le Orders (put_line k x then) a b a.lines k e r b.lines after_line line_parts cells_by h.written h.inside h.puts
    where
      cells_by : (s : StoreName) → cells b s ≡ cells a s
      cells_by Events = ap (λ m. m.fixed.cells) h.events
      cells_by Orders = ap (λ f. f.cells) h.puts.fixed
