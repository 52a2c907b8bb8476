-- A closing: the lines are melded, and then fronts start while there are free benches.
use Rattle.std.proofs.Common.{◌≡◌, ℕ, suc, ◌+◌, ◌<◌, ◌≤◌, Bool, true, false, cond, ◌||◌, eqb, leb, List, length, Some, None, Ok, Err, Option, Result, sym, refl, ap, ◌∙◌, subst, arith}
use Rattle.std.proofs.lemmas.Bool.{lt-ltb, le-ltb, lt-leb, eq-eqb, ne_eqb}
use Rattle.elements.specs.declared.events.Event.{Event}
use Rattle.elements.specs.declared.lines.LineEntry.{LineEntry}
use Rattle.elements.specs.Elements.{line_le}
use Rattle.stores.specs.declared.refusals.Refusal.{Refusal}
use Rattle.stores.specs.declared.refusals.Refusal.TheVariants.{QueueNumber, SameQueue}
use Rattle.stores.specs.Meaning.{State, Meaning, count_of, live}
use Rattle.stores.specs.Calls.{meld_answer, meld_after}
use Rattle.stores.specs.Promises.{Melds}
use Rattle.stores.proofs.Counting.{adds_up}
use Rattle.machine.specs.declared.networks.Network.{Network}
use Rattle.machine.specs.declared.records.RecordKind.TheVariants.{Close, Kept}
use Rattle.machine.specs.declared.records.Record.{Record}
use Rattle.machine.specs.declared.records.StoreName.{StoreName}
use Rattle.machine.specs.declared.records.StoreName.TheVariants.{Events, Orders}
use Rattle.machine.specs.declared.records.Fault.{Fault}
use Rattle.machine.specs.Network.{station, closed, has_free}
use Rattle.machine.specs.Machine.{bounds_of, with_cut, with_lines, tell, halted, as_is}
use Rattle.machine.specs.Step.{start_front, fill_by, fill_one, fill, stays_open, close_by, close}
use Rattle.outcomes.specs.Simulation.{Control, Simulation, Earlier, no_takes, machine_of, cells}
use Rattle.outcomes.specs.Outcomes.{Counted}
use Rattle.outcomes.proofs.Onwards.{outcome_onward, outcome_quiet, outcome_none, no_takes_more}
use Rattle.outcomes.proofs.Sequences.{outcome_then, outcome_else, written_not}
use Rattle.outcomes.proofs.Ends.{ends_halted, tidy_as_is}
use Rattle.simulations.specs.Conditions.{IsStation, Fit, Each, LineFit}
use Rattle.simulations.specs.Writes.{simulation, with_network, one_more, noted, shut}
use Rattle.simulations.specs.Calls.{Call}
use Rattle.simulations.proofs.Fitting.{each_meld, fit_closed}
use Rattle.simulations.proofs.Writing.{machine_noted, written_noted, kept_cells, kept_counted}
use Rattle.simulations.proofs.Entering.{outcome_as}
use Rattle.simulations.proofs.Finishing.{going, over}

-- One turn of filling the benches of station j.

module _ (j : ℕ) (b z : Simulation) where
  fills : (x : Bool) → has_free b.control.network j ≡ x → (t : Earlier) (c : Option ℕ) → fill_one j (with_cut (machine_of t b) c) ≡ fill_by x j (with_cut (machine_of t b) c)
  fills x e t c = ap (λ y. fill_by y j (with_cut (machine_of t b) c)) e

  pub fill_starts : (station b.control.network j).busy < (station b.control.network j).benches → Call (start_front j) 1 b z → Call (fill_one j) 1 b z
  fill_starts lt h = record { fit = h.fit; few = h.few; outcome = outcome_as (fill_one j) (start_front j) b z (fills true (lt-ltb _ _ lt)) h.outcome }

pub fill_rests : (j : ℕ) (b : Simulation) → (station b.control.network j).benches ≤ (station b.control.network j).busy → Fit b → Call (fill_one j) 1 b b
fill_rests j b le h = record { fit = h; few = omega arith; outcome = outcome_as (fill_one j) as_is b b (fills j b b false (le-ltb _ _ le)) (outcome_none b) }

module _ (n j : ℕ) (a b : Simulation) (p : Call (fill n j) n a b) (r : b.control.refusal ≡ None) where
  one_up : (z : Simulation) → Call (fill (suc n) j) (suc n) a z → Call (fill (n + 1) j) (n + 1) a z
  one_up z h = let e : suc n ≡ n + 1 = omega arith in subst (λ x. Call (fill x j) x a z) e h

  pub fill_on : (z : Simulation) → b.control.fault ≡ None → Call (fill_one j) 1 b z → Call (fill (n + 1) j) (n + 1) a z
  fill_on z f q = one_up z (record {
    fit = q.fit;
    few = omega (arith, p.few, q.few);
    outcome = outcome_then halted (fill n j) (fill_one j) as_is ends_halted tidy_as_is a b z p.outcome (going b r f) q.outcome;
  })

  pub fill_over : (x : Fault) → b.control.fault ≡ Some x → Call (fill (n + 1) j) (n + 1) a b
  fill_over x f = one_up b (record {
    fit = p.fit;
    few = omega (arith, p.few);
    outcome = outcome_else halted (fill n j) (fill_one j) as_is ends_halted tidy_as_is a b b (over b x r f) (record {
      same = λ t. refl;
      uses = λ s. refl;
      issued = λ s. refl;
      cells = λ s. refl;
      written = written_not b;
    }) p.outcome;
  })

pub fill_none : (j : ℕ) (a : Simulation) → Fit a → Call (fill 0 j) 0 a a
fill_none j a h = record { fit = h; few = omega arith; outcome = outcome_none a }

-- Two stations that are not the same.

or_left : (x y : Bool) → x || y ≡ false → x ≡ false
or_left false y e = refl
or_left true y e = e

pub apart : (k j : ℕ) (n : Network) → stays_open k j n ≡ false → j ≡ k → ⊥
apart k j n e same = let z : eqb k j ≡ false = or_left (eqb k j) _ e in let y : eqb k j ≡ true = eq-eqb k j (sym same) in let w : ◌≡◌ {A = ℕ} 0 1 = cc in absurd (omega arith)

module _ (k j : ℕ) (k-is : IsStation k) (j-is : IsStation j) (ne : j ≡ k → ⊥) (l : Meaning LineEntry) where
  meld_is : meld_answer l.state j k ≡ Ok (count_of l.state k)
  meld_is =
      ap (λ b. cond (b || leb 32 k) (Err QueueNumber) (cond (eqb j k) (Err SameQueue) (Ok (count_of l.state k)))) (lt-leb 32 j j-is)
      ∙ ap (λ b. cond b (Err QueueNumber) (cond (eqb j k) (Err SameQueue) (Ok (count_of l.state k)))) (lt-leb 32 k k-is)
      ∙ ap (λ b. cond b (Err SameQueue) (Ok (count_of l.state k))) (ne_eqb j k ne)

  module _ (d : Control) (m : Meaning Event) (ps : List Record) (h : Fit (simulation d m l ps)) (n : ℕ) (l2 : Meaning LineEntry) (p : Melds line_le l j k (Ok n) l2) where
    abbrev a : Simulation
    a = simulation d m l ps

    moved : n ≡ count_of l.state k
    moved = let e : ◌≡◌ {A = Result ℕ Refusal} (Ok n) (Ok (count_of l.state k)) = p.answer ∙ meld_is in cc

    melded : l2.state ≡ meld_after line_le l.state j k (meld_answer l.state j k)
    melded = p.after ∙ ap (meld_after line_le l.state j k) p.answer

    module _ (d1 : Control) (ps1 : List Record) where
      shut_cells : (s : StoreName) → cells (simulation d1 m l2 ps1) s ≡ cells a s
      shut_cells Events = refl
      shut_cells Orders = ap (λ f. f.cells) p.fixed

      shut_counted : Counted no_takes a (simulation d1 m l2 ps1)
      shut_counted Events = omega arith
      shut_counted Orders = omega (arith, p.held, ap live p.after, ap (λ s. s.next) p.after, (adds_up line_le).meld l.state j k n (omega (arith, h.lines.queues, j-is)) (omega (arith, h.lines.queues, k-is)) ne)

    -- the machine with the lines melded
    machine_melded : (d1 : Control) (t : Earlier) → machine_of t (simulation d1 m l2 ps) ≡ with_lines (machine_of t (simulation d1 m l ps)) (record { state = meld_after line_le l.state j k (meld_answer l.state j k); bounds = bounds_of l.fixed; taken = t.takes.lines })
    machine_melded d1 t =
        ap (λ (s : State LineEntry). with_lines (machine_of t (simulation d1 m l ps)) (record { state = s; bounds = bounds_of l2.fixed; taken = t.takes.lines })) melded
        ∙ ap (λ f. with_lines (machine_of t (simulation d1 m l ps)) (record { state = meld_after line_le l.state j k (meld_answer l.state j k); bounds = bounds_of f; taken = t.takes.lines })) p.fixed

    pub shut_fit : Fit (simulation (shut k j d) m l2 (noted (Close k j n) d ps))
    shut_fit = record { network = fit_closed k j d.network j-is h.network; instant = h.instant; end = h.end; events = h.events; lines = subst (Each LineFit) (sym p.after) (each_meld LineFit line_le l.state j k (Ok n) h.lines) }

    -- then the benches are filled
    pub close_fills : stays_open k j d.network ≡ false → d.used < length ps → (z : Simulation) → Call (fill 8 j) 8 (simulation (shut k j d) m l2 (noted (Close k j n) d ps)) z → Call (close k j) 9 a z
    close_fills e lt z q =
        let d1 : Control = with_network d (closed k j d.network) in
        let b : Simulation = simulation (shut k j d) m l2 (noted (Close k j n) d ps) in
        record {
          fit = q.fit;
          few = omega (arith, q.few);
          outcome = outcome_onward (close k j) (fill 8 j) a b z (record {
            takes = no_takes;
            same = λ t c.
                ap (λ x. close_by x k j (with_cut (machine_of t a) c)) e
                ∙ sym (ap (λ w. fill 8 j (with_cut w c)) (machine_noted d1 m l2 ps (Close k j n) t lt ∙ ap (tell (Close k j n)) (machine_melded d1 t) ∙ ap (λ x. tell (Close k j x) (with_lines (machine_of t (simulation d1 m l ps)) (record { state = meld_after line_le l.state j k (meld_answer l.state j k); bounds = bounds_of l.fixed; taken = t.takes.lines }))) moved))
                ∙ ap (λ v. fill 8 j (with_cut (machine_of v b) c)) (no_takes_more t);
            cells = shut_cells (shut k j d) (noted (Close k j n) d ps);
            counted = shut_counted (shut k j d) (noted (Close k j n) d ps);
            written = written_noted a b (record { at = d.instant; kind = Close k j n }) refl refl;
          }) q.outcome;
        }

-- nothing closes
pub close_kept : (k j : ℕ) (d : Control) (m : Meaning Event) (l : Meaning LineEntry) (ps : List Record) → stays_open k j d.network ≡ true → d.used < length ps → Fit (simulation d m l ps) → Call (close k j) 9 (simulation d m l ps) (simulation (one_more d) m l (noted (Kept k j) d ps))
close_kept k j d m l ps e lt h =
    let a : Simulation = simulation d m l ps in
    let b : Simulation = simulation (one_more d) m l (noted (Kept k j) d ps) in
    record {
      fit = record { network = h.network; instant = h.instant; end = h.end; events = h.events; lines = h.lines };
      few = omega arith;
      outcome = outcome_quiet (close k j) a b (record {
        takes = no_takes;
        same = λ t c. ap (λ x. close_by x k j (with_cut (machine_of t a) c)) e ∙ sym (ap (λ w. with_cut w c) (machine_noted d m l ps (Kept k j) t lt)) ∙ ap (λ v. with_cut (machine_of v b) c) (no_takes_more t);
        cells = kept_cells d (one_more d) m l ps (noted (Kept k j) d ps);
        counted = kept_counted d (one_more d) m l ps (noted (Kept k j) d ps);
        written = written_noted a b (record { at = d.instant; kind = Kept k j }) refl refl;
      });
    }
