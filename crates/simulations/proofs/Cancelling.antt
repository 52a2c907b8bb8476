-- A cancel: an entry fewer, and at most one cell more held.
use Rattle.std.proofs.Common.{◌≡◌, ℕ, ◌+◌, ◌≤◌, Bool, List, Some, None, Ok, Err, Option, Result, sym, refl, ap, ◌∙◌, subst, le_refl, arith}
use Rattle.elements.specs.declared.events.Event.{Event}
use Rattle.elements.specs.declared.lines.LineEntry.{LineEntry}
use Rattle.elements.specs.declared.entries.Entry.{Entry}
use Rattle.elements.specs.Elements.{event_le, line_le}
use Rattle.stores.specs.declared.refusals.Refusal.{Refusal}
use Rattle.stores.specs.Meaning.{State, Meaning, live}
use Rattle.stores.specs.Calls.{cancel_after, found, queue_with}
use Rattle.stores.specs.Promises.{Cancels, Unchanged}
use Rattle.stores.proofs.Counting.{adds_up}
use Rattle.machine.specs.declared.records.Record.{Record}
use Rattle.machine.specs.declared.records.StoreName.{StoreName}
use Rattle.machine.specs.declared.records.StoreName.TheVariants.{Events, Orders}
use Rattle.machine.specs.Machine.{bounds_of, with_events, with_lines}
use Rattle.machine.specs.Step.{cancel_event, cancel_line}
use Rattle.outcomes.specs.Simulation.{Control, Earlier, no_takes, machine_of, cells}
use Rattle.outcomes.specs.Outcomes.{Counted}
use Rattle.simulations.specs.Conditions.{Each}
use Rattle.simulations.specs.Writes.{simulation}
use Rattle.simulations.proofs.Fitting.{each_cancel}

module _ {T : Type 0} (le : T → T → Bool) (m : Meaning T) (k : ℕ) (r : Result ℕ Refusal) (n : Meaning T) (c : Cancels le m k r n) where
  any_height : (h : ℕ) (o : Option ℕ) → cancel_after m.state k (found h o) ≡ cancel_after m.state k (found 0 o)
  any_height h None = refl
  any_height h (Some q) = refl

  -- the machine's, whatever height a refusal carries
  cancel_state : n.state ≡ cancel_after m.state k (found 0 (queue_with k m.state.lists 0))
  cancel_state = c.after ∙ ap (cancel_after m.state k) c.answer ∙ any_height m.fixed.cancelling (queue_with k m.state.lists 0)

  pub each_cancelled : (P : Entry T → Type 0) → Each P m.state → Each P n.state
  each_cancelled P h = subst (Each P) (sym c.after) (each_cancel P m.state k r h)

module _ {T : Type 0} (le : T → T → Bool) (m : Meaning T) (k : ℕ) where
  uses_by : (r : Result ℕ Refusal) (n : Meaning T) (o : Option ℕ) → queue_with k m.state.lists 0 ≡ o → r ≡ found m.fixed.cancelling o → n.state ≡ cancel_after m.state k r → n.held ≤ m.held + 1 → Unchanged r m n → live n.state + n.held ≤ live m.state + m.held
  uses_by (Ok q) n None e a s h z = let y : ◌≡◌ {A = ℕ} 0 1 = cc in absurd (omega arith)
  uses_by (Ok q) n (Some p) e a s h z = let y : p ≡ q = cc in omega (arith, h, ap live s, (adds_up le).cancel m.state k q (e ∙ ap Some y))
  uses_by (Err f) n o e a s h z = rw z (le_refl _)

  -- no more cells are in use
  cancel_uses : (r : Result ℕ Refusal) (n : Meaning T) → Cancels le m k r n → Unchanged r m n → live n.state + n.held ≤ live m.state + m.held
  cancel_uses r n c u = uses_by r n (queue_with k m.state.lists 0) refl c.answer c.after c.held u

  same_next : (r : Result ℕ Refusal) → (cancel_after m.state k r).next ≡ m.state.next
  same_next (Ok q) = refl
  same_next (Err f) = refl

  -- what a cancel counts
  counted_cancel : (r : Result ℕ Refusal) (n : Meaning T) → Cancels le m k r n → Unchanged r m n → live n.state + n.held + m.state.next ≤ live m.state + m.held + n.state.next
  counted_cancel r n c u = omega (arith, cancel_uses r n c u, ap (λ s. s.next) c.after, same_next r)

module _ (d d2 : Control) (m : Meaning Event) (l : Meaning LineEntry) (ps ps2 : List Record) (k : ℕ) (r : Result ℕ Refusal) where
  module _ (l2 : Meaning LineEntry) (c : Cancels line_le l k r l2) where
    pub line_cancelled : (t : Earlier) → machine_of t (simulation d m l2 ps) ≡ cancel_line k (machine_of t (simulation d m l ps))
    line_cancelled t =
        ap (λ (s : State LineEntry). with_lines (machine_of t (simulation d m l ps)) (record { state = s; bounds = bounds_of l2.fixed; taken = t.takes.lines })) (cancel_state line_le l k r l2 c)
        ∙ ap (λ f. with_lines (machine_of t (simulation d m l ps)) (record { state = cancel_after l.state k (found 0 (queue_with k l.state.lists 0)); bounds = bounds_of f; taken = t.takes.lines })) c.fixed

    pub line_cells : (s : StoreName) → cells (simulation d2 m l2 ps2) s ≡ cells (simulation d m l ps) s
    line_cells Events = refl
    line_cells Orders = ap (λ f. f.cells) c.fixed

    pub line_counted : Unchanged r l l2 → Counted no_takes (simulation d m l ps) (simulation d2 m l2 ps2)
    line_counted u Events = omega arith
    line_counted u Orders = omega (arith, counted_cancel line_le l k r l2 c u)

  module _ (m2 : Meaning Event) (c : Cancels event_le m k r m2) where
    pub event_cancelled : (t : Earlier) → machine_of t (simulation d m2 l ps) ≡ cancel_event k (machine_of t (simulation d m l ps))
    event_cancelled t =
        ap (λ (s : State Event). with_events (machine_of t (simulation d m l ps)) (record { state = s; bounds = bounds_of m2.fixed; taken = t.takes.events })) (cancel_state event_le m k r m2 c)
        ∙ ap (λ f. with_events (machine_of t (simulation d m l ps)) (record { state = cancel_after m.state k (found 0 (queue_with k m.state.lists 0)); bounds = bounds_of f; taken = t.takes.events })) c.fixed

    pub event_cells : (s : StoreName) → cells (simulation d2 m2 l ps2) s ≡ cells (simulation d m l ps) s
    event_cells Events = ap (λ f. f.cells) c.fixed
    event_cells Orders = refl

    pub event_counted : Unchanged r m m2 → Counted no_takes (simulation d m l ps) (simulation d2 m2 l ps2)
    event_counted u Events = omega (arith, counted_cancel event_le m k r m2 c u)
    event_counted u Orders = omega arith
