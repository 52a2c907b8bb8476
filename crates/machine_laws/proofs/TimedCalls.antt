-- Every call keeps the stores in order and the records in time, and steps come to an end.
use Rattle.std.proofs.Common.{◌≡◌, ℕ, zero, suc, ◌+◌, ◌<◌, ◌≤◌, Bool, true, false, ltb, ◌⊎◌, List, [], ◌∷◌, Some, None, Ok, Err, Option, Result, sym, refl, ap, ◌∙◌, subst, inl, inr, arith}
use Rattle.std.specs.List.{AllByRecursion}
use Rattle.std.proofs.ByRecursion.{All-weaker}
use Rattle.std.proofs.lemmas.List.{get_or-set_same}
use Rattle.std.proofs.lemmas.Bool.Decides.{nat_tests}
use Rattle.elements.specs.declared.events.Event.{Event}
use Rattle.elements.specs.declared.events.EventKind.TheVariants.{Arrive, Withdraw, Close as Closing}
use Rattle.elements.specs.declared.entries.Entry.{Entry}
use Rattle.elements.specs.Elements.{event_le, line_le}
use Rattle.elements.specs.Order.{precedes_by, stamp_of}
use Rattle.stores.specs.declared.refusals.Refusal.{Refusal}
use Rattle.stores.specs.SortedLists.{Sorted}
use Rattle.stores.specs.Meaning.{list_of}
use Rattle.stores.specs.Calls.{take_after, front, rest}
use Rattle.stores.proofs.Counting.{adds_up}
use Rattle.stores.proofs.Removing.{front_before}
use Rattle.machine.specs.declared.networks.Order.{Order}
use Rattle.machine.specs.declared.forms.Form.{Form}
use Rattle.machine.specs.declared.forms.Form.TheVariants.{Station as a-station, Order as an-order, Withdraw as a-withdraw, Close as a-close, End}
use Rattle.machine.specs.declared.forms.FormRefusal.{FormRefusal}
use Rattle.machine.specs.declared.records.Record.{Record}
use Rattle.machine.specs.declared.records.Fault.{Fault}
use Rattle.machine.specs.Machine.{Bounds, Machine, start_machine, with_refusal, with_instant}
use Rattle.machine.specs.Puts.{Continuation, event_tried, put_event}
use Rattle.machine.specs.Step.{not_after, due_by, due_event, next_event, take_event, step_by, step, steps_by, steps}
use Rattle.machine.specs.Forms.{event_at, announced, ordered, new_order, in_range, form_in_place, names_declared, accept, form_by, form_refusal, form}
use Rattle.machine.specs.Calls.{Call, a_form, a_step, call}
use Rattle.machine_laws.specs.Runs.{after}
use Rattle.machine_laws.specs.Times.{TimesRise, RunsEnd}
use Rattle.machine_laws.proofs.Trying.{Refused, Accepted, tried}
use Rattle.machine_laws.proofs.Walks.{Closed, react_walks}
use Rattle.machine_laws.proofs.Stopping.{Extends, extends}
use Rattle.machine_laws.proofs.Calling.{calls_keep}
use Rattle.machine_laws.proofs.Closings.{due_ended, in_draft}
use Rattle.machine_laws.proofs.TidyStores.{sorted_at, tidy_take, tidy_fresh}
use Rattle.machine_laws.proofs.Timing.{Late, Kept, Sound, keeps, event_strict}

-- the event that is due is the front one
not_after_is : (b : Bool) (e x : Event) → not_after b e ≡ Some x → e ≡ x
not_after_is true e x p = absurd (let z : ◌≡◌ {A = ℕ} 0 1 = cc in omega arith)
not_after_is false e x p = cc

pub due_front : (f : Option Fault) (t : Option ℕ) (o : Option (Entry Event)) (x : Event) → due_by f t o ≡ Some x → (e : Entry Event) × (o ≡ Some e) × (e.element ≡ x)
due_front (Some f) t o x p = absurd (let z : ◌≡◌ {A = ℕ} 0 1 = cc in omega arith)
due_front None None o x p = absurd (let z : ◌≡◌ {A = ℕ} 0 1 = cc in omega arith)
due_front None (Some t) None x p = absurd (let z : ◌≡◌ {A = ℕ} 0 1 = cc in omega arith)
due_front None (Some t) (Some e) x p = (e, refl, not_after_is (ltb t e.element.time) e.element x p)

-- all others are no earlier than the front
front_late : (xs : List (Entry Event)) (e : Entry Event) → front xs ≡ Some e → Sorted (precedes_by event_le) xs → AllByRecursion (Late e.element.time) (rest xs)
front_late [] e p s = tt
front_late (x ∷ xs) e p s =
    let same : x ≡ e = cc in
    subst (λ (y : Entry Event). AllByRecursion (Late y.element.time) xs) same (All-weaker (λ y. precedes_by event_le x y ≡ true) (Late x.element.time) (λ y h. grind (arith, nat_tests)) xs (front_before (precedes_by event_le) stamp_of event_strict x xs s))

late_front : (t : ℕ) (xs : List (Entry Event)) (e : Entry Event) → front xs ≡ Some e → AllByRecursion (Late t) xs → t ≤ e.element.time
late_front t [] e p h = absurd (let z : ◌≡◌ {A = ℕ} 0 1 = cc in omega arith)
late_front t (x ∷ xs) e p h = let same : x ≡ e = cc in subst (Late t) same h.0

-- the front event is taken, and its time is the instant
pub sound_taken : (m : Machine) (e : Entry Event) → next_event m ≡ Some e → Sound m → Sound (with_instant (take_event m) e.element.time)
sound_taken m e p h =
    let s = m.events.state in
    subst (λ (o : Option (Entry Event)). Kept e.element.time (record { state = take_after s 0 (Ok o); bounds = m.events.bounds; taken = m.events.taken + 1 }) m.lines.state m.records) (sym p) (record {
      events_tidy = tidy_take event_le event_strict s h.events_tidy 0 (Some e) p;
      lines_tidy = h.lines_tidy;
      late = subst (AllByRecursion (Late e.element.time)) (sym (get_or-set_same s.lists 0 (rest (list_of s 0)) [] (omega (arith, h.events_tidy.queues)))) (front_late (list_of s 0) e p (sorted_at event_le event_strict s h.events_tidy 0));
      rising = h.rising;
      past = let le = late_front m.instant (list_of s 0) e p h.late in All-weaker (λ (r : Record). r.at ≤ m.instant) (λ (r : Record). r.at ≤ e.element.time) (λ r q. omega arith) m.records h.past;
      spent = omega (arith, h.spent, (adds_up event_le).take s 0 e p);
      stamps = h.stamps;
    })

pub record Timed (m : Machine) : Type 0 where
  pub sound : Sound m
  -- while forms are taken
  pub draft : m.end ≡ None → m.instant ≡ 0

-- a step that takes an event
pub stepped : (m : Machine) (x : Event) → due_event m ≡ Some x → Sound m → Sound (step_by (Some x) (with_refusal m None))
stepped m x p h =
    let d = due_front m.fault m.end (next_event m) x p in
    react_walks _ keeps x.kind _ (subst (λ (y : Event). Sound (with_instant (take_event (with_refusal m None)) y.time)) d.2 (sound_taken (with_refusal m None) d.0 d.1 h))

step_timed : (m : Machine) → Timed m → Timed (step m)
step_timed m h = go (due_event m) refl
  where
    go : (o : Option Event) → due_event m ≡ o → Timed (step_by o (with_refusal m None))
    go None p = record { sound = h.sound; draft = h.draft }
    go (Some x) p =
        let v = with_instant (take_event (with_refusal m None)) x.time in
        record {
          sound = stepped m x p h.sound;
          draft = λ q. absurd (due_ended m.fault m.end (next_event m) x p (sym (react_walks Extends extends x.kind v).end ∙ q));
        }

-- an event that a form puts
put_timed : (x : Machine → Event) (then : Continuation) → ((r : Result ℕ Refusal) (m : Machine) → Timed m → Timed (then r m)) → (m : Machine) → m.end ≡ None → Timed m → Timed (put_event x then m)
put_timed x then keep m e h = go (tried event_le m.cut m.events 0 (x m))
  where
    go : Refused event_le m.cut m.events 0 (x m) ⊎ Accepted event_le m.cut m.events 0 (x m) → Timed (put_event x then m)
    go (inl p) = subst (λ t. Timed (event_tried then m t)) (sym p.is) (keep (Err p.refusal) _ (record { sound = h.sound; draft = h.draft }))
    go (inr p) = subst (λ t. Timed (event_tried then m t)) (sym p.is) (keep (Ok m.events.state.next) _ (record { sound = keeps.event_put (x m) m (omega (arith, h.draft e)) p.stamp h.sound; draft = h.draft }))

announced_timed : (r : Result ℕ Refusal) (m : Machine) → Timed m → Timed (announced r m)
announced_timed (Ok n) m h = h
announced_timed (Err f) m h = record { sound = h.sound; draft = h.draft }

ordered_timed : (i : ℕ) (o : Order) (r : Result ℕ Refusal) (m : Machine) → Timed m → Timed (ordered i o r m)
ordered_timed i o (Ok n) m h = record { sound = h.sound; draft = h.draft }
ordered_timed i o (Err f) m h = record { sound = h.sound; draft = h.draft }

accept_timed : (f : Form) (m : Machine) → m.end ≡ None → Timed m → Timed (accept f m)
accept_timed (a-station k b d w n) m e h = record { sound = h.sound; draft = h.draft }
accept_timed (an-order i t u v k) m e h = put_timed (event_at t (Arrive i k)) (ordered i (new_order u v k)) (ordered_timed i (new_order u v k)) m e h
accept_timed (a-withdraw i t) m e h = put_timed (event_at t (Withdraw i)) announced announced_timed m e h
accept_timed (a-close k t j) m e h = put_timed (event_at t (Closing k j)) announced announced_timed m e h
accept_timed (End t) m e h = record { sound = h.sound; draft = λ q. h.draft e }

form_timed : (f : Form) (m : Machine) → Timed m → Timed (form f m)
form_timed f m h = go (form_refusal f m) refl
  where
    go : (o : Option FormRefusal) → form_refusal f m ≡ o → Timed (form_by o f (with_refusal m None))
    go None p = accept_timed f (with_refusal m None) (in_draft m.end (form_in_place f m) (in_range f) (names_declared f m.network) p) (record { sound = h.sound; draft = h.draft })
    go (Some r) p = record { sound = h.sound; draft = h.draft }

pub call_timed : (x : Call) (m : Machine) → Timed m → Timed (call x m)
call_timed (a_form f) m h = form_timed f m h
call_timed a_step m h = step_timed m h

pub first_timed : (e l : Bounds) (c : Option ℕ) → Timed (start_machine e l c)
first_timed e l c = record {
  sound = record { events_tidy = tidy_fresh event_le; lines_tidy = tidy_fresh line_le; late = tt; rising = tt; past = tt; spent = omega arith; stamps = omega arith };
  draft = λ q. refl;
}

pub reached_sound : (xs : List Call) (e l : Bounds) (c : Option ℕ) → Sound (after xs e l c)
reached_sound xs e l c = (calls_keep Timed call_timed xs (start_machine e l c) (first_timed e l c)).sound

pub times_rise : TimesRise
times_rise xs e l c = let h = reached_sound xs e l c in record { rising = h.rising; past = h.past }

-- what has been taken, and how many stamps there are, only a step's take changes
abbrev Taken : Machine → Machine → Type 0
Taken m v = (v.events.taken ≡ m.events.taken) × (v.events.bounds ≡ m.events.bounds)

taken : Closed Taken
taken = record {
  same = λ m. (refl, refl);
  then = λ m v w a b. (b.0 ∙ a.0, b.1 ∙ a.1);
  told = λ x m. (refl, refl);
  marked = λ i st m. (refl, refl);
  occupied = λ k m. (refl, refl);
  freed = λ k m. (refl, refl);
  closing = λ k j m e. (refl, refl);
  event_put = λ x m e f. (refl, refl);
  event_cancelled = λ k m. (refl, refl);
  line_put = λ q x m e. (refl, refl);
  line_taken = λ k m. (refl, refl);
  line_cancelled = λ k m. (refl, refl);
  line_melded = λ j k m. (refl, refl);
  cut = λ c m. (refl, refl);
  failed = λ f s m. (refl, refl);
}

-- an event that is due is one of those that are left
some_left : (m : Machine) (x : Event) → due_event m ≡ Some x → Sound m → m.events.taken < m.events.bounds.stamps
some_left m x p h =
    let d = due_front m.fault m.end (next_event m) x p in
    omega (arith, h.spent, h.stamps, (adds_up event_le).take m.events.state 0 d.0 d.1)

steps_end : (n : ℕ) (m : Machine) → Sound m → m.events.bounds.stamps ≤ m.events.taken + n → due_event (steps n m) ≡ None
steps_end zero m h le = go (due_event m) refl
  where
    go : (o : Option Event) → due_event m ≡ o → due_event m ≡ None
    go None p = p
    go (Some x) p = absurd (omega (arith, some_left m x p h, le))
steps_end (suc n) m h le = go (due_event m) refl (steps_end n)
  where
    go : (o : Option Event) → due_event m ≡ o → ((v : Machine) → Sound v → v.events.bounds.stamps ≤ v.events.taken + n → due_event (steps n v) ≡ None) → due_event (steps_by o (steps n) m) ≡ None
    go None p ih = p
    go (Some x) p ih =
        let v = with_instant (take_event (with_refusal m None)) x.time in
        let w = react_walks Taken taken x.kind v in
        let s : step m ≡ step_by (Some x) (with_refusal m None) = ap (λ o. step_by o (with_refusal m None)) p in
        subst (λ u. due_event (steps n u) ≡ None) (sym s) (ih _ (stepped m x p h) (omega (arith, le, w.0, ap (λ (b : Bounds). b.stamps) w.1)))

pub runs_end : RunsEnd
runs_end xs e l c = let h = reached_sound xs e l c in steps_end _ (after xs e l c) h (omega arith)
